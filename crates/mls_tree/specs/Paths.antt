-- Resolutions (RFC 9420, 4.1.1), and the paths from a leaf to the root (4.1.2), each the lowest node first. Nodes are
-- given by node index. `leaves` is the number of leaves of the whole tree, `first` the index of the first leaf of the
-- subtree. Used by contracts.
use Rattle.std.specs.Prelude.{ℕ, ◌+◌, ◌*◌, ◌-◌, nat_lt, if◌then◌else◌, not, List, [], ◌∷◌, ◌++◌, length, map, filter, Option, Some, None, option_map}
use Rattle.std.specs.BTreeSet.{BTreeSet, contains}
use Rattle.std.specs.Ordering.{nat_cmp}
use Rattle.mls_tree.specs.Tree.{Tree, leaf, branch, leaf_count, root_node_index, subtree_at}

-- `unmerged_node_indices leaves xs` is the node indices of unmerged leaves, in the order of the list. Entries that are
-- no leaf index of the whole tree are left out.
abbrev pub unmerged_node_indices : ℕ → List ℕ → List ℕ
unmerged_node_indices leaves xs = map (λ i. 2 * i) (filter (λ i. nat_lt i leaves) xs)

-- `resolution leaves first t` is the resolution of a subtree (RFC 9420, 4.1.1): of a non-blank node the node and its
-- unmerged leaves; of a blank leaf nothing; of a blank parent that of the left child and then that of the right child.
abbrev pub resolution : ℕ → ℕ → Tree → List ℕ
resolution leaves first (leaf None) = []
resolution leaves first (leaf (Some _)) = (2 * first) ∷ []
resolution leaves first (branch l None r) = resolution leaves first l ++ resolution leaves (first + leaf_count l) r
resolution leaves first (branch l (Some p) r) = (2 * (first + leaf_count l) - 1) ∷ unmerged_node_indices leaves p.unmerged

-- `resolution_at t p` is the resolution of the node at node index p, if there is one.
abbrev pub resolution_at : Tree → ℕ → Option (List ℕ)
resolution_at t p = option_map (λ s. resolution (leaf_count t) s.first s.tree) (subtree_at 0 t p)

-- `count_not_in without node_indices` is how many of these node indices are not in a set.
abbrev pub count_not_in : BTreeSet ℕ → List ℕ → ℕ
count_not_in without node_indices = length (filter (λ p. not (contains nat_cmp without p)) node_indices)

-- `direct_path first t i` is the direct path of leaf i (RFC 9420, 4.1.2): the parents above it.
abbrev pub direct_path : ℕ → Tree → ℕ → List ℕ
direct_path first (leaf _) i = []
direct_path first (branch l _ r) i =
    (if nat_lt i (first + leaf_count l) then direct_path first l i else direct_path (first + leaf_count l) r i) ++ (2 * (first + leaf_count l) - 1) ∷ []

-- `copath first t i` is the copath of leaf i (RFC 9420, 4.1.2): the sibling of the leaf and of each node above it
-- except the root.
abbrev pub copath : ℕ → Tree → ℕ → List ℕ
copath first (leaf _) i = []
copath first (branch l _ r) i =
    if nat_lt i (first + leaf_count l)
    then copath first l i ++ (root_node_index (first + leaf_count l) r) ∷ []
    else copath (first + leaf_count l) r i ++ (root_node_index first l) ∷ []

-- `where_resolved r p` is node index p, if the resolution `r` is not empty.
abbrev pub where_resolved : List ℕ → ℕ → List ℕ
where_resolved [] p = []
where_resolved (_ ∷ _) p = p ∷ []

-- `filtered_direct_path leaves first t i` is the filtered direct path of leaf i (RFC 9420, 4.1.2): the parents above it
-- whose child on the copath has a resolution that is not empty.
abbrev pub filtered_direct_path : ℕ → ℕ → Tree → ℕ → List ℕ
filtered_direct_path leaves first (leaf _) i = []
filtered_direct_path leaves first (branch l _ r) i =
    if nat_lt i (first + leaf_count l)
    then filtered_direct_path leaves first l i ++ where_resolved (resolution leaves (first + leaf_count l) r) (2 * (first + leaf_count l) - 1)
    else filtered_direct_path leaves (first + leaf_count l) r i ++ where_resolved (resolution leaves first l) (2 * (first + leaf_count l) - 1)
