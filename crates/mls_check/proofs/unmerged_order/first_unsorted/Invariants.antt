use Rattle.std.proofs.Common.{ℕ, ◌<◌}
use Rattle.mls_check.specs.UnmergedLists.{IsSortedAt}
use Rattle.mls_check.proofs.unmerged_order.first_unsorted.Given as goal

abbrev pub invariant-loop-node_index : goal.invariant-loop-node_index
invariant-loop-node_index l = (p : ℕ) → p < l.node_index → IsSortedAt l.tree.tree p
