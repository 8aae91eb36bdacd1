use Rattle.std.proofs.Common.{[], arith}
use Rattle.std.proofs.lemmas.List.Folds.{length-flat_map-take}
use Rattle.mls_check.proofs.receipts.len_of_pieces.Goals as goal

pub returns-then-piece-len : goal.returns-then-piece-len
returns-then-piece-len c =
    let before = length-flat_map-take (λ p. p.now) c.args.pieces.now c.loop-piece.piece-index (record { ref_ptr = (0, 0); now = [] }) c.loop-piece-test.true in
    omega (arith, c.if-piece-len.true, c.loop-piece.invariant.len, c.loop-piece.invariant.low, before)
