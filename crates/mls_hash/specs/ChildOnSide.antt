-- The child of a non-blank parent on a side. Internal: no public contract uses this.
use Rattle.std.specs.Prelude.{◌≡◌, ℕ, Some}
use Rattle.mls_nodes.specs.declared.parent.ParentNode.{ParentNode}
use Rattle.mls_tree.specs.Tree.{Tree}
use Rattle.mls_tree.specs.NodeView.{HasChildren}
use Rattle.mls_hash.specs.declared.side.Side.{Side}
use Rattle.mls_hash.specs.declared.side.Side.TheVariants as sides

-- `child_on side left right` is the node index of the child on a side.
abbrev pub child_on : Side → ℕ → ℕ → ℕ
child_on sides.Left left right = left
child_on sides.Right left right = right

-- `HasChildOn t p side child parent`: a non-blank parent is at node index p, and its child on that side at `child`.
pub record HasChildOn (t : Tree) (p : ℕ) (side : Side) (child : ℕ) (parent : ParentNode) : Type 0 where
  pub left : ℕ
  pub right : ℕ
  pub middle : ℕ
  pub children : HasChildren t p left right middle (Some parent)
  pub here : child ≡ child_on side left right
