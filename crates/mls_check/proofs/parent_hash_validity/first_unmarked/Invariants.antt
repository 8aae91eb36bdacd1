use Rattle.std.proofs.Common.{ℕ, ◌<◌}
use Rattle.mls_check.specs.ParentHashMarks.{IsMarkedAt}
use Rattle.mls_check.proofs.parent_hash_validity.first_unmarked.Given as goal

abbrev pub invariant-loop-node_index : goal.invariant-loop-node_index
invariant-loop-node_index l = (p : ℕ) → p < l.node_index → IsMarkedAt l.tree.tree l.marks p
