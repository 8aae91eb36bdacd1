-- Trees of leaf nodes without extensions, with basic credentials. Internal: no public contract uses this.
use Rattle.std.specs.Prelude.{◌≡◌, ℕ, Some}
use Rattle.mls_nodes.specs.PlainLeaf.{IsPlain}
use Rattle.mls_nodes.specs.declared.leaf.LeafNode.{LeafNode}
use Rattle.mls_tree.specs.Tree.{Tree, leaf_at}

-- `ArePlain t`: each non-blank leaf of the tree is plain.
abbrev pub ArePlain : Tree → Type 0
ArePlain t = (i : ℕ) (x : LeafNode) → leaf_at 0 t i ≡ Some x → IsPlain x
