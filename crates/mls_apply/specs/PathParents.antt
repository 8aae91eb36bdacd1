-- How the implementation merges a path: it makes the new parents along the filtered direct path, from the root down,
-- blanks the direct path, puts each of them in place, and then the leaf. Internal: no public contract uses this.
use Rattle.std.specs.Prelude.{ℕ, ◌+◌, nat_lt, if◌then◌else◌, List, [], ◌∷◌, reverse, map, Option, Some, None, option_map, option_and_then}
use Rattle.mls_nodes.specs.declared.parent.ParentNode.{ParentNode}
use Rattle.mls_tree.specs.Tree.{Tree, leaf, branch, leaf_count, Subtree, subtree_at}
use Rattle.mls_tree.specs.TreeOperations.{put_parent}
use Rattle.mls_tree.specs.Paths.{resolution, filtered_direct_path}
use Rattle.mls_apply.specs.MergePath.{path_parent, path_hash}

-- `copath_child i first t` is the child of the root on the copath of leaf i.
abbrev pub copath_child : ℕ → ℕ → Tree → Option Subtree
copath_child i first (leaf _) = None
copath_child i first (branch l _ r) =
    if nat_lt i (first + leaf_count l)
    then Some (record { first = first + leaf_count l; tree = r })
    else Some (record { first = first; tree = l })

-- `away_at t i node_index` is the child on the copath of leaf i of the parent at a node index.
abbrev pub away_at : Tree → ℕ → ℕ → Option Subtree
away_at t i node_index = option_and_then (λ s. copath_child i s.first s.tree) (subtree_at 0 t node_index)

-- `resolution_of leaves s` is the resolution of a subtree, in a tree with this many leaves.
abbrev pub resolution_of : ℕ → Option Subtree → List ℕ
resolution_of leaves None = []
resolution_of leaves (Some s) = resolution leaves s.first s.tree

-- `away_resolution t i node_index` is the resolution of the child on the copath of leaf i of the parent at a node
-- index.
abbrev pub away_resolution : Tree → ℕ → ℕ → List ℕ
away_resolution t i node_index = resolution_of (leaf_count t) (away_at t i node_index)

-- `path_hash_at H t i node_index p` is the parent hash of a parent that a path of leaf i makes at a node index.
abbrev pub path_hash_at : (List ℕ → List ℕ) → Tree → ℕ → ℕ → ParentNode → Option (List ℕ)
path_hash_at H t i node_index p = option_and_then (λ s. path_hash H p s.first s.tree) (away_at t i node_index)

-- A new parent, with its node index.
pub record Change : Type 0 where
  pub node_index : ℕ
  pub parent : ParentNode

-- The new parents, the root's first, and the parent hash for the leaf.
pub record PathParents : Type 0 where
  pub changes : List Change
  pub hash : List ℕ

-- `below node_index p path_parents` is the route with a new parent above the others.
abbrev pub below : ℕ → ParentNode → PathParents → PathParents
below node_index p path_parents = record { changes = record { node_index = node_index; parent = p } ∷ path_parents.changes; hash = path_parents.hash }

-- `path_parents H t i node_indices keys hash` is a path of leaf i through these node indices with as many keys, the
-- root's first, below a node with this parent hash.
abbrev pub path_parents : (List ℕ → List ℕ) → Tree → ℕ → List ℕ → List (List ℕ) → List ℕ → Option PathParents
path_parents H t i [] [] hash = Some (record { changes = []; hash = hash })
path_parents H t i [] (_ ∷ _) hash = None
path_parents H t i (node_index ∷ node_indices) [] hash = None
path_parents H t i (node_index ∷ node_indices) (key ∷ keys) hash =
    option_and_then (λ h. option_map (below node_index (path_parent key hash)) (path_parents H t i node_indices keys h))
    (path_hash_at H t i node_index (path_parent key hash))

-- `changed first t changes` is the tree with the new parents put in place, the last one first.
abbrev pub changed : ℕ → Tree → List Change → Tree
changed first t [] = t
changed first t (c ∷ cs) = put_parent first (changed first t cs) c.node_index (Some c.parent)

-- `carried r` is the parent hashes for the leaf and for each new parent, the leaf's first.
abbrev pub carried : PathParents → List (List ℕ)
carried r = r.hash ∷ reverse (map (λ c. c.parent.parent_hash) r.changes)

-- `parents_of_path H t i keys` is the route of a path of leaf i with these keys, the lowest first.
abbrev pub parents_of_path : (List ℕ → List ℕ) → Tree → ℕ → List (List ℕ) → Option PathParents
parents_of_path H t i keys = path_parents H t i (reverse (filtered_direct_path (leaf_count t) 0 t i)) (reverse keys) []
