-- Node indices of a tree and how they are related (RFC 9420, Appendix C), by the subtrees at these. Used by contracts.
use Rattle.std.specs.Prelude.{◌≡◌, ℕ, ◌+◌, ◌⊎◌, Option, Some, None, option_map, option_and_then}
use Rattle.mls_tree.specs.Tree.{Tree, leaf, branch, height, leaf_count, subtree_at, root_node_index}

-- `level_at t p` is the level of node index p: the height of the subtree there (RFC 9420, Appendix C).
abbrev pub level_at : Tree → ℕ → Option ℕ
level_at t p = option_map (λ s. height s.tree) (subtree_at 0 t p)

-- `left_node_index first t` is the node index of the left child of the root.
abbrev pub left_node_index : ℕ → Tree → Option ℕ
left_node_index first (leaf _) = None
left_node_index first (branch l _ _) = Some (root_node_index first l)

-- `right_node_index first t` is the node index of the right child of the root.
abbrev pub right_node_index : ℕ → Tree → Option ℕ
right_node_index first (leaf _) = None
right_node_index first (branch l _ r) = Some (root_node_index (first + leaf_count l) r)

-- `left_at t p` is the node index of the left child of the node at p (RFC 9420, Appendix C).
abbrev pub left_at : Tree → ℕ → Option ℕ
left_at t p = option_and_then (λ s. left_node_index s.first s.tree) (subtree_at 0 t p)

-- `right_at t p` is the node index of the right child of the node at p (RFC 9420, Appendix C).
abbrev pub right_at : Tree → ℕ → Option ℕ
right_at t p = option_and_then (λ s. right_node_index s.first s.tree) (subtree_at 0 t p)

-- `IsParentOf t q p`: the node at q is the parent of the node at p (RFC 9420, Appendix C).
abbrev pub IsParentOf : Tree → ℕ → ℕ → Type 0
IsParentOf t q p = (left_at t q ≡ Some p) ⊎ (right_at t q ≡ Some p)

-- `AreSiblings t p u`: the nodes at p and u are the children of one node (RFC 9420, Appendix C).
abbrev pub AreSiblings : Tree → ℕ → ℕ → Type 0
AreSiblings t p u = (q : ℕ) × (((left_at t q ≡ Some p) × (right_at t q ≡ Some u)) ⊎ ((right_at t q ≡ Some p) × (left_at t q ≡ Some u)))
