use Rattle.std.proofs.Common.{◌≡◌, ℕ, ◌<◌, Some}
use Rattle.mls_nodes.specs.declared.leaf.LeafNode.{LeafNode}
use Rattle.mls_tree.specs.Tree.{leaf_at}
use Rattle.mls_nodes.specs.PlainLeaf.{IsPlain}
use Rattle.mls_check.proofs.plain_leaves.are_plain.Given as goal

abbrev pub invariant-loop-index : goal.invariant-loop-index
invariant-loop-index l = (j : ℕ) (x : LeafNode) → j < l.index → leaf_at 0 l.tree.tree j ≡ Some x → IsPlain x
