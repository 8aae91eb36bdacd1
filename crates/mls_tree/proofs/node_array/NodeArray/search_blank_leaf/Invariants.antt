use Rattle.std.proofs.Common.{ℕ, ◌≤◌, ◌<◌, IsSome}
use Rattle.mls_tree.specs.Tree.{leaf_at}
use Rattle.mls_tree.proofs.node_array.NodeArray.search_blank_leaf.Given as goal

abbrev pub invariant-loop-index : goal.invariant-loop-index
invariant-loop-index l = (i : ℕ) → l.start ≤ i → i < l.index → IsSome (leaf_at 0 l.self.tree i)
