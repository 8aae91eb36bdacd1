-- A tree without some of its leaves, and its tree hash, the original tree hash (RFC 9420, 7.9). `leaves` is a list of
-- leaf indices, `first` the index of the first leaf of the tree, H a hash function. Used by contracts.
use Rattle.std.specs.Prelude.{ℕ, ◌+◌, ◌==◌, Bool, not, List, Option, None, option_map, option_and_then, filter, if◌then◌else◌}
use Rattle.std.specs.List.{list_any}
use Rattle.mls_nodes.specs.declared.leaf.LeafNode.{LeafNode}
use Rattle.mls_nodes.specs.declared.parent.ParentNode.{ParentNode}
use Rattle.mls_tree.specs.Tree.{Tree, leaf, branch, leaf_count, subtree_at}
use Rattle.mls_tree.specs.TreeHash.{tree_hash}

-- `is_among leaves i`: the index is in the list.
abbrev pub is_among : List ℕ → ℕ → Bool
is_among leaves i = list_any (λ x. x == i) leaves

-- `stripped_leaf leaves i x` is the leaf `x` with index i, or blank if i is in the list.
abbrev pub stripped_leaf : List ℕ → ℕ → Option LeafNode → Option LeafNode
stripped_leaf leaves i x = if is_among leaves i then None else x

-- `without leaves indices` is the indices that are not in the list.
abbrev pub without : List ℕ → List ℕ → List ℕ
without leaves indices = filter (λ i. not (is_among leaves i)) indices

-- `stripped_parent leaves p` is the parent without the leaves of the list in its unmerged leaves.
abbrev pub stripped_parent : List ℕ → ParentNode → ParentNode
stripped_parent leaves p = record p { unmerged = without leaves p.unmerged }

-- `strip leaves first t` is the tree with each leaf of the list blank, and with each of their indices removed from
-- every unmerged list (RFC 9420, 7.9).
abbrev pub strip : List ℕ → ℕ → Tree → Tree
strip leaves first (leaf x) = leaf (stripped_leaf leaves first x)
strip leaves first (branch l p r) =
    branch (strip leaves first l) (option_map (stripped_parent leaves) p) (strip leaves (first + leaf_count l) r)

-- `original_tree_hash H leaves first t` is the tree hash of the tree without the leaves (RFC 9420, 7.9).
abbrev pub original_tree_hash : (List ℕ → List ℕ) → List ℕ → ℕ → Tree → Option (List ℕ)
original_tree_hash H leaves first t = tree_hash H first (strip leaves first t)

-- `tree_hash_at H t node_index` is the tree hash of the subtree at a node index, if there is one (RFC 9420, 7.8).
abbrev pub tree_hash_at : (List ℕ → List ℕ) → Tree → ℕ → Option (List ℕ)
tree_hash_at H t node_index = option_and_then (λ s. tree_hash H s.first s.tree) (subtree_at 0 t node_index)

-- `original_tree_hash_at H leaves t node_index` is the original tree hash of the subtree at a node index, if there is
-- one (RFC 9420, 7.9).
abbrev pub original_tree_hash_at : (List ℕ → List ℕ) → List ℕ → Tree → ℕ → Option (List ℕ)
original_tree_hash_at H leaves t node_index = option_and_then (λ s. original_tree_hash H leaves s.first s.tree) (subtree_at 0 t node_index)
