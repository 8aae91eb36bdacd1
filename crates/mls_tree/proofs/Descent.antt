-- Steps of a walk down the node indices of a tree, as a crate above makes it by `part` alone: it is at a node index, goes on at those of both
-- children, and ends at the leaves.
use Rattle.std.proofs.Common.{◌≡◌, ℕ, ◌+◌, ◌*◌, ◌≤◌, ◌<◌, Option, Some, None, ap, arith}
use Rattle.mls_nodes.specs.declared.parent.ParentNode.{ParentNode}
use Rattle.mls_tree.specs.Tree.{Tree, height, Subtree, subtree_at, leaf_count}
use Rattle.mls_tree.specs.RatchetTree.{RatchetTree}
use Rattle.mls_tree.specs.NodeView.{HasChildren}
use Rattle.mls_tree.proofs.Numbers.{leaves_at-low}
use Rattle.mls_tree.proofs.Trees.{subtree_at-perfect, subtree_at-stands, root_node_index-below}
use Rattle.mls_tree.proofs.Coordinates.{leaf_count-low}

-- how far down the walk can go: its measure, as `depth (subtree_at 0 l.tree.now.tree l.node_index)`
abbrev pub depth : Option Subtree → ℕ
depth None = 0
depth (Some s) = height s.tree

-- a tree has no more leaves than the limit
pub leaf_count-limit : (t : RatchetTree) → leaf_count t.tree ≤ 1048576
leaf_count-limit t = let low = leaf_count-low t in omega (arith, leaves_at-low (height t.tree) low.0)

-- a node index at which there is a subtree is one of the tree's
pub inside_bound : (t : Tree) (p : ℕ) (s : Subtree) → subtree_at 0 t p ≡ Some s → p + 1 < 2 * leaf_count t
inside_bound t p s e = let st = subtree_at-stands 0 t p s e in omega (arith, st.node_index, st.to_right, root_node_index-below s.first s.tree)

-- the right child is nearer to the leaves, as the left one is
module _ (t : RatchetTree) (p q u m : ℕ) (n : Option ParentNode) (c : HasChildren t.tree p q u m n) where
  pub right_lower : depth (subtree_at 0 t.tree u) < depth (subtree_at 0 t.tree p)
  right_lower =
      let e = (subtree_at-perfect 0 t.tree p _ c.whole t.shape.perfect).0.0 in
      omega (arith, ap depth c.right_child, ap depth c.whole)
