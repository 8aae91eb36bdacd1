-- Unmerged leaves that are strictly increasing and consistent (RFC 9420, 7.1 and 12.4.3.1). Used by contracts.
use Rattle.std.specs.Prelude.{◌≡◌, ℕ, ◌+◌, ◌==◌, ◌&&◌, nat_lt, if◌then◌else◌, Bool, true, Option, Some, None, is_some, IsTrue}
use Rattle.std.specs.List.{list_any, list_all}
use Rattle.std.specs.List.Sorted.{IsStrictlyIncreasing}
use Rattle.mls_nodes.specs.declared.parent.ParentNode.{ParentNode}
use Rattle.mls_nodes.specs.NodeModel.{NodeValue, leaf_node, parent_node}
use Rattle.mls_tree.specs.Tree.{Tree, leaf, branch, leaf_count, Subtree, subtree_at, node_at}

-- `HasSortedList n`: the unmerged list of a non-blank parent is strictly increasing. RFC 9420, 7.1 requires increasing
-- order; that no index is repeated is an own rule.
abbrev pub HasSortedList : Option NodeValue → Type 0
HasSortedList None = Unit {0}
HasSortedList (Some (leaf_node _)) = Unit {0}
HasSortedList (Some (parent_node p)) = IsStrictlyIncreasing p.unmerged

-- `IsSortedAt t p`: the unmerged list of the node at node index p is strictly increasing, if it has one.
abbrev pub IsSortedAt : Tree → ℕ → Type 0
IsSortedAt t p = HasSortedList (node_at t p)

-- `HasStrictlyIncreasingLists t`: every unmerged list is strictly increasing (RFC 9420, 7.1).
abbrev pub HasStrictlyIncreasingLists : Tree → Type 0
HasStrictlyIncreasingLists t = (p : ℕ) → IsSortedAt t p

-- `is_blank_or_lists p i`: the parent has leaf i in its unmerged list, or is blank.
abbrev pub is_blank_or_lists : Option ParentNode → ℕ → Bool
is_blank_or_lists None i = true
is_blank_or_lists (Some p) i = list_any (λ x. x == i) p.unmerged

-- `is_unmerged_in_all i first t`: leaf i of the tree `t`, whose first leaf is `first`, is non-blank, and every
-- non-blank parent above it in `t` has it in its unmerged list (RFC 9420, 12.4.3.1).
abbrev pub is_unmerged_in_all : ℕ → ℕ → Tree → Bool
is_unmerged_in_all i first (leaf x) = (i == first) && is_some x
is_unmerged_in_all i first (branch l p r) =
    is_blank_or_lists p i && (if nat_lt i (first + leaf_count l) then is_unmerged_in_all i first l else is_unmerged_in_all i (first + leaf_count l) r)

-- `is_consistent first t`: the unmerged leaves of the root are consistent. Each is a non-blank leaf below it and is
-- listed by every non-blank parent between the two (RFC 9420, 12.4.3.1). True if the root is blank or a leaf.
abbrev pub is_consistent : ℕ → Tree → Bool
is_consistent first (leaf _) = true
is_consistent first (branch l None r) = true
is_consistent first (branch l (Some p) r) = list_all (λ i. is_unmerged_in_all i first (branch l None r)) p.unmerged

-- `HasConsistentUnmergedAt t p`: the unmerged leaves of the parent at node index p are consistent.
abbrev pub HasConsistentUnmergedAt : Tree → ℕ → Type 0
HasConsistentUnmergedAt t p = (s : Subtree) → subtree_at 0 t p ≡ Some s → IsTrue (is_consistent s.first s.tree)

-- `HasConsistentUnmerged t`: the unmerged leaves of every non-blank parent are consistent (RFC 9420, 12.4.3.1).
abbrev pub HasConsistentUnmerged : Tree → Type 0
HasConsistentUnmerged t = (p : ℕ) → HasConsistentUnmergedAt t p
