-- What is at a node index of a tree, and at which node indices its children are. Used by contracts.
use Rattle.std.specs.Prelude.{◌≡◌, ℕ, ◌+◌, Option, Some, None, option_copied}
use Rattle.mls_nodes.specs.declared.parent.ParentNode.{ParentNode}
use Rattle.mls_nodes.specs.NodeModel.{NodeValue, leaf_node, parent_node}
use Rattle.mls_tree.specs.Tree.{Tree, leaf, branch, leaf_count, subtree_at}
use Rattle.mls_tree.specs.declared.node_view.Part.{Part}
use Rattle.mls_tree.specs.declared.node_view.Part.TheVariants.{Leaf, Parent}

-- `parent_of n` is the parent node, if the node is one.
abbrev pub parent_of : Option NodeValue → Option ParentNode
parent_of None = None
parent_of (Some (leaf_node _)) = None
parent_of (Some (parent_node p)) = Some p

-- `HasChildren t p q u middle node`: a parent is at node index p, and its children at q and u. `middle` is the index of
-- the first leaf of its right subtree.
pub record HasChildren (t : Tree) (p q u middle : ℕ) (node : Option ParentNode) : Type 0 where
  pub first : ℕ
  pub left : Tree
  pub right : Tree
  pub whole : subtree_at 0 t p ≡ Some (record { first = first; tree = branch left node right })
  pub left_child : subtree_at 0 t q ≡ Some (record { first = first; tree = left })
  pub right_child : subtree_at 0 t u ≡ Some (record { first = first + leaf_count left; tree = right })
  pub split : middle ≡ first + leaf_count left

-- `IsPartAt t node_index part`: the part is what is at the node index.
abbrev pub IsPartAt : Tree → ℕ → Part → Type 0
IsPartAt t node_index (Leaf index node) = subtree_at 0 t node_index ≡ Some (record { first = index; tree = leaf (option_copied node) })
IsPartAt t node_index (Parent node left right middle) = HasChildren t node_index left right middle (option_copied node)
