use Rattle.std.proofs.Common.{List, ℕ, ◌++◌, arith, length-append}
use Rattle.mls_wire.proofs.KnownBytes.{Consumes-trans}
use Rattle.mls_wire.proofs.Logs.{OnErr-any}
use Rattle.mls_wire.proofs.log.read_body.Goals as goal

pub returns-in_err-read_piece-clause-effect_on_error : goal.returns-in_err-read_piece-clause-effect_on_error
returns-in_err-read_piece-clause-effect_on_error g c =
    let (more, short, taken) = c.in_err-read_piece.ensures.effect_on_error in
    let old : List ℕ = c.pieces.body.items in
    OnErr-any c.from_residual.result (old ++ more, omega (arith, short, length-append old more, c.min-count.ensures, c.len-in-pieces.ensures, c.pieces-test.true), Consumes-trans _ _ _ _ _ c.pieces.invariant.0 taken)
