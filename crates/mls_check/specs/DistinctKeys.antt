-- Distinct encryption keys (RFC 9420, 7.3 and 12.4.3.1), by node index and by the list of all keys. Used by contracts.
use Rattle.std.specs.Prelude.{◌≡◌, ◌≢◌, ◌↔◌, ℕ, List, [], ◌∷◌, ◌++◌, Bool, true, not, ◌&&◌, Option, Some, None, option_map}
use Rattle.std.specs.List.{list_any}
use Rattle.std.specs.Str.{bytes_eq}
use Rattle.mls_nodes.specs.declared.leaf.LeafNode.{LeafNode}
use Rattle.mls_nodes.specs.declared.parent.ParentNode.{ParentNode}
use Rattle.mls_nodes.specs.NodeModel.{NodeValue, leaf_node, parent_node}
use Rattle.mls_tree.specs.Tree.{Tree, leaf, branch, node_at}

-- `encryption_key n` is the encryption key of a node.
abbrev pub encryption_key : NodeValue → List ℕ
encryption_key (leaf_node x) = x.encryption_key
encryption_key (parent_node p) = p.encryption_key

-- `encryption_key_at t p` is the encryption key of the non-blank node at node index p.
abbrev pub encryption_key_at : Tree → ℕ → Option (List ℕ)
encryption_key_at t p = option_map encryption_key (node_at t p)

-- `HaveOneKey t p q`: the nodes at p and q are non-blank and have one encryption key.
pub record HaveOneKey (t : Tree) (p q : ℕ) : Type 0 where
  pub key : List ℕ
  pub here : encryption_key_at t p ≡ Some key
  pub there : encryption_key_at t q ≡ Some key

-- `HasUniqueKeyAt t p`: no other non-blank node has the encryption key of the node at node index p.
abbrev pub HasUniqueKeyAt : Tree → ℕ → Type 0
HasUniqueKeyAt t p = (q : ℕ) → q ≢ p → ¬ HaveOneKey t p q

-- `IsDistinct t`: no two non-blank nodes have equal encryption keys (RFC 9420, 7.3 and 12.4.3.1).
abbrev pub IsDistinct : Tree → Type 0
IsDistinct t = (p : ℕ) → HasUniqueKeyAt t p

-- ---- by the list of all keys, as a function

-- `leaf_keys x` is the encryption key of a leaf, if it is non-blank.
abbrev pub leaf_keys : Option LeafNode → List (List ℕ)
leaf_keys None = []
leaf_keys (Some x) = x.encryption_key ∷ []

-- `parent_keys p` is the encryption key of a parent, if it is non-blank.
abbrev pub parent_keys : Option ParentNode → List (List ℕ)
parent_keys None = []
parent_keys (Some p) = p.encryption_key ∷ []

-- `tree_keys t` is the encryption keys of the non-blank nodes, from left to right.
abbrev pub tree_keys : Tree → List (List ℕ)
tree_keys (leaf x) = leaf_keys x
tree_keys (branch l p r) = tree_keys l ++ (parent_keys p ++ tree_keys r)

-- `has_key keys key`: the key is in the list.
abbrev pub has_key : List (List ℕ) → List ℕ → Bool
has_key keys key = list_any (λ k. bytes_eq k key) keys

-- `are_distinct keys`: no key is twice in the list.
unfoldable pub are_distinct : List (List ℕ) → Bool
are_distinct [] = true
are_distinct (k ∷ ks) = not (has_key ks k) && are_distinct ks

-- `has_distinct_keys t`: no encryption key is twice in the tree (RFC 9420, 7.3 and 12.4.3.1).
unfoldable pub has_distinct_keys : Tree → Bool
has_distinct_keys t = are_distinct (tree_keys t)

-- `has_distinct_keys` is true if and only if `IsDistinct` holds.
abbrev pub DistinctByKeys : Type 0
DistinctByKeys = (t : Tree) → (has_distinct_keys t ≡ true) ↔ IsDistinct t
