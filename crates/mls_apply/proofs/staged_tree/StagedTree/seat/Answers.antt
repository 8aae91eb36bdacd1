use Rattle.std.proofs.Common.{arith}
use Rattle.mls_apply.proofs.staged_tree.StagedTree.seat.Goals as goal

-- no leaf is before the first one
pub leaf_for_member-requires-clause-set : goal.leaf_for_member-requires-clause-set
leaf_for_member-requires-clause-set c = λ i low. absurd (omega (arith, low))
