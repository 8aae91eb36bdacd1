use Rattle.std.proofs.Common.{ℕ, ◌<◌}
use Rattle.mls_check.specs.UnmergedInAll.{IsCarriedDownAt}
use Rattle.mls_check.proofs.unmerged_consistency.are_carried_down.Given as goal

abbrev pub invariant-loop-node_index : goal.invariant-loop-node_index
invariant-loop-node_index l = (p : ℕ) → p < l.node_index → IsCarriedDownAt l.tree.tree p
