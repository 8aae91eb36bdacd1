use Rattle.std.proofs.Common.{◌≡◌, ◌≤◌, flat_map, length, take}
use Rattle.mls_wire.specs.Limits.{vector_limit}
use Rattle.mls_check.proofs.receipts.len_of_pieces.Given as goal

abbrev pub invariant-loop-piece : goal.invariant-loop-piece
invariant-loop-piece l = record {
  len : l.len ≡ length (flat_map (λ p. p.now) (take l.piece-index l.pieces));
  low : l.len ≤ vector_limit;
}
