use Rattle.std.proofs.Common.{ℕ, Option, length}
use Rattle.mls_index.specs.FirstChanged.{smaller}
use Rattle.mls_index.specs.RepeatedKeys.{FindsRepeatedAt}
use Rattle.mls_index.specs.TreeIndex.{ContainsKeysOf}
use Rattle.mls_index.proofs.tree_index.TreeIndex.first_repeated_key.Given as goal

-- the smaller one of what was found and of the first one at the rest is the first one
abbrev pub invariant-loop-node_index : goal.invariant-loop-node_index
invariant-loop-node_index l =
    ContainsKeysOf l.tree.tree l.self
    → (p : Option ℕ) → FindsRepeatedAt l.rest l.tree.tree p → FindsRepeatedAt l.node_indices l.tree.tree (smaller l.found p)

abbrev pub decreases-loop-node_index : goal.decreases-loop-node_index
decreases-loop-node_index l = length l.rest
