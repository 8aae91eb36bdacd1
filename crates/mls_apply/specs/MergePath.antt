-- Merging an UpdatePath into a tree (RFC 9420, 7.5 and 7.9): a walk from the root to the committer's leaf. `leaves` is
-- the number of leaves of the whole tree, `first` the index of the first leaf of the subtree, H a hash function. `hash`
-- is the parent hash from the node above, `keys` the keys of the path that are not used yet, the root's first. Used by
-- contracts.
use Rattle.std.specs.Prelude.{ℕ, ◌+◌, nat_lt, if◌then◌else◌, List, [], ◌∷◌, ◌++◌, reverse, Option, Some, None, option_map, option_and_then}
use Rattle.mls_nodes.specs.declared.leaf.LeafNode.{LeafNode}
use Rattle.mls_nodes.specs.declared.parent.ParentNode.{ParentNode}
use Rattle.mls_tree.specs.Tree.{Tree, leaf, branch, leaf_count}
use Rattle.mls_tree.specs.TreeHash.{tree_hash}
use Rattle.mls_tree.specs.Paths.{resolution}
use Rattle.mls_hash.specs.ParentHash.{parent_hash_input}

-- `path_parent key hash` is a parent that a path makes: its key, its parent hash, and no unmerged leaves (RFC 9420,
-- 7.5).
abbrev pub path_parent : List ℕ → List ℕ → ParentNode
path_parent key hash = record { encryption_key = key; parent_hash = hash; unmerged = [] }

-- `path_hash H p first away` is the parent hash of a parent `p` that a path makes, from the tree hash of its child on the
-- copath, whose first leaf is `first` (RFC 9420, 7.9).
abbrev pub path_hash : (List ℕ → List ℕ) → ParentNode → ℕ → Tree → Option (List ℕ)
path_hash H p first away =
    option_and_then (λ original. option_map H (parent_hash_input p original)) (tree_hash H first away)

-- One step of the walk: the new parent node, or `None` if it becomes blank; the parent hash for the next node on the
-- path; the keys that are left.
pub record PathStep : Type 0 where
  pub parent : Option ParentNode
  pub hash : List ℕ
  pub keys : List (List ℕ)

-- `path_step H r first away hash keys` is the step at a parent whose child on the copath is `away`, with the resolution
-- `r` (RFC 9420, 7.5 and 7.9). If `r` is empty, the parent becomes blank, and hash and keys are passed on. Otherwise
-- the parent takes the next key and the hash, and passes on its own parent hash. `None` if no key is left, or a hash
-- does not exist.
abbrev pub path_step : (List ℕ → List ℕ) → List ℕ → ℕ → Tree → List ℕ → List (List ℕ) → Option PathStep
path_step H [] first away hash keys = Some (record { parent = None; hash = hash; keys = keys })
path_step H (_ ∷ _) first away hash [] = None
path_step H (_ ∷ _) first away hash (key ∷ keys) =
    option_map (λ h. record { parent = Some (path_parent key hash); hash = h; keys = keys })
    (path_hash H (path_parent key hash) first away)

-- `path_step_at H leaves first away hash keys` is `path_step` with the resolution of `away`.
abbrev pub path_step_at : (List ℕ → List ℕ) → ℕ → ℕ → Tree → List ℕ → List (List ℕ) → Option PathStep
path_step_at H leaves first away hash keys = path_step H (resolution leaves first away) first away hash keys

-- `merged_from H leaves first t i x hash keys` is the subtree with `x` as leaf i and with each parent above it made by
-- a step. `None` if keys are left at the leaf.
abbrev pub merged_from : (List ℕ → List ℕ) → ℕ → ℕ → Tree → ℕ → LeafNode → List ℕ → List (List ℕ) → Option Tree
merged_from H leaves first (leaf _) i x hash [] = Some (leaf (Some x))
merged_from H leaves first (leaf _) i x hash (_ ∷ _) = None
merged_from H leaves first (branch l _ r) i x hash keys =
    if nat_lt i (first + leaf_count l)
    then option_and_then
    (λ n. option_map (λ t. branch t n.parent r) (merged_from H leaves first l i x n.hash n.keys))
    (path_step_at H leaves (first + leaf_count l) r hash keys)
    else option_and_then
    (λ n. option_map (λ t. branch l n.parent t) (merged_from H leaves (first + leaf_count l) r i x n.hash n.keys))
    (path_step_at H leaves first l hash keys)

-- `merged H t i x keys` is the tree with a path of leaf i merged: `x` is leaf i, and the parents of the filtered direct
-- path have the keys, the lowest first (RFC 9420, 7.5). `None` if the number of keys is not that of these parents. It
-- is used only if leaf i is non-blank, which is an earlier rule.
abbrev pub merged : (List ℕ → List ℕ) → Tree → ℕ → LeafNode → List (List ℕ) → Option Tree
merged H t i x keys = merged_from H (leaf_count t) 0 t i x [] (reverse keys)

-- `append_parent_hash p hash hashes` is `hashes` followed by the hash, if the parent is non-blank.
abbrev pub append_parent_hash : Option ParentNode → List ℕ → List (List ℕ) → List (List ℕ)
append_parent_hash None hash hashes = hashes
append_parent_hash (Some _) hash hashes = hashes ++ hash ∷ []

-- `hashes_from H leaves first t i hash keys` is the parent hashes for leaf i and for each new parent above it, the
-- leaf's first. `None` if keys are left at the leaf.
abbrev pub hashes_from : (List ℕ → List ℕ) → ℕ → ℕ → Tree → ℕ → List ℕ → List (List ℕ) → Option (List (List ℕ))
hashes_from H leaves first (leaf _) i hash [] = Some (hash ∷ [])
hashes_from H leaves first (leaf _) i hash (_ ∷ _) = None
hashes_from H leaves first (branch l _ r) i hash keys =
    if nat_lt i (first + leaf_count l)
    then option_and_then
    (λ n. option_map (append_parent_hash n.parent hash) (hashes_from H leaves first l i n.hash n.keys))
    (path_step_at H leaves (first + leaf_count l) r hash keys)
    else option_and_then
    (λ n. option_map (append_parent_hash n.parent hash) (hashes_from H leaves (first + leaf_count l) r i n.hash n.keys))
    (path_step_at H leaves first l hash keys)

-- `expected_hashes H t i keys` is the parent hashes that a path of leaf i with these keys must have: the leaf's, then
-- those of the filtered direct path, the lowest first. The last one is empty (RFC 9420, 7.9). `None` if the number of
-- keys is not that of the parents of the filtered direct path.
abbrev pub expected_hashes : (List ℕ → List ℕ) → Tree → ℕ → List (List ℕ) → Option (List (List ℕ))
expected_hashes H t i keys = hashes_from H (leaf_count t) 0 t i [] (reverse keys)
