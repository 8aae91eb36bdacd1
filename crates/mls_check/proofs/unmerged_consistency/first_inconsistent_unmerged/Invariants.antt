use Rattle.std.proofs.Common.{ℕ, ◌<◌}
use Rattle.mls_check.specs.UnmergedLists.{HasConsistentUnmergedAt}
use Rattle.mls_check.proofs.unmerged_consistency.first_inconsistent_unmerged.Given as goal

abbrev pub invariant-loop-node_index : goal.invariant-loop-node_index
invariant-loop-node_index l = (p : ℕ) → p < l.node_index → HasConsistentUnmergedAt l.tree.tree p
