-- The tree hash of a ratchet tree (RFC 9420, 7.8). H is a hash function. Used by contracts.
use Rattle.std.specs.Prelude.{ℕ, ◌+◌, List, Option, Some, None, option_map}
use Rattle.std.specs.Int.{w8, w32}
use Rattle.mls_wire.specs.Encoding.{◌⊕◌, number, vector, optional}
use Rattle.mls_nodes.specs.declared.leaf.LeafNode.{LeafNode}
use Rattle.mls_nodes.specs.declared.parent.ParentNode.{ParentNode}
use Rattle.mls_nodes.specs.Layout as layout
use Rattle.mls_tree.specs.Tree.{Tree, leaf, branch, leaf_count}

-- `leaf_tree_hash_input i x` is the encoding of TreeHashInput for a leaf: the node type 1, the leaf index, and the
-- optional leaf node (RFC 9420, 7.8).
abbrev pub leaf_tree_hash_input : ℕ → Option LeafNode → Option (List ℕ)
leaf_tree_hash_input i x = number w8 1 ⊕ number w32 i ⊕ optional layout.leaf x

-- `parent_tree_hash_input p left right` is the encoding of TreeHashInput for a parent: the node type 2, the optional
-- parent node, and the hashes of both children (RFC 9420, 7.8).
abbrev pub parent_tree_hash_input : Option ParentNode → List ℕ → List ℕ → Option (List ℕ)
parent_tree_hash_input p left right = number w8 2 ⊕ optional layout.parent p ⊕ vector left ⊕ vector right

-- `hash_of_parent H p left right` is the tree hash of a parent from the hashes of its children, if they have one.
abbrev pub hash_of_parent : (List ℕ → List ℕ) → Option ParentNode → Option (List ℕ) → Option (List ℕ) → Option (List ℕ)
hash_of_parent H p None right = None
hash_of_parent H p (Some left) None = None
hash_of_parent H p (Some left) (Some right) = option_map H (parent_tree_hash_input p left right)

-- `tree_hash H first t` is the tree hash of a subtree whose first leaf is `first` (RFC 9420, 7.8). `None` if a node has
-- no encoding, which no node of these types is.
abbrev pub tree_hash : (List ℕ → List ℕ) → ℕ → Tree → Option (List ℕ)
tree_hash H first (leaf x) = option_map H (leaf_tree_hash_input first x)
tree_hash H first (branch l p r) = hash_of_parent H p (tree_hash H first l) (tree_hash H (first + leaf_count l) r)
