use Rattle.std.proofs.Common.{ℕ, List, ◌++◌, flat_map, take}
use Rattle.sha2.specs.Hashers.{Holds256}
use Rattle.mls_check.proofs.receipts.update_pieces.Given as goal

abbrev pub invariant-loop-piece : goal.invariant-loop-piece
invariant-loop-piece l = (m : List ℕ) → Holds256 l.fn.hasher m → Holds256 l.hasher (m ++ flat_map (λ p. p.now) (take l.piece-index l.pieces))
