-- Unmerged leaves, by the node index of the subtree that contains them. Internal: no public contract uses this.
use Rattle.std.specs.Prelude.{◌≡◌, ℕ, ◌+◌, ◌==◌, ◌&&◌, nat_lt, if◌then◌else◌, Bool, true, false, Option, Some, None, is_some, IsTrue}
use Rattle.std.specs.List.{list_any, list_all}
use Rattle.mls_tree.specs.Tree.{Tree, leaf, branch, leaf_count, Subtree, subtree_at}
use Rattle.mls_check.specs.UnmergedLists.{is_unmerged_in_all}

-- `holds_at test s i`: `test` holds of leaf i in the subtree, if there is one.
abbrev pub holds_at : (ℕ → ℕ → Tree → Bool) → Option Subtree → ℕ → Bool
holds_at test None i = false
holds_at test (Some s) i = test i s.first s.tree

-- `is_unmerged_in_all_at s i`: `is_unmerged_in_all` holds of leaf i in the subtree, if there is one.
abbrev pub is_unmerged_in_all_at : Option Subtree → ℕ → Bool
is_unmerged_in_all_at s i = holds_at is_unmerged_in_all s i

-- `is_listed_by_next i first t`: the next non-blank parent on the way down the tree `t` to leaf i has it in its unmerged
-- list. If there is none, the leaf is non-blank. `first` is the first leaf of `t`.
abbrev pub is_listed_by_next : ℕ → ℕ → Tree → Bool
is_listed_by_next i first (leaf x) = (i == first) && is_some x
is_listed_by_next i first (branch l (Some p) r) = list_any (λ x. x == i) p.unmerged
is_listed_by_next i first (branch l None r) =
    if nat_lt i (first + leaf_count l) then is_listed_by_next i first l else is_listed_by_next i (first + leaf_count l) r

-- `is_listed_by_next_at s i`: `is_listed_by_next` holds of leaf i in the subtree, if there is one.
abbrev pub is_listed_by_next_at : Option Subtree → ℕ → Bool
is_listed_by_next_at s i = holds_at is_listed_by_next s i

-- `is_carried_down first t`: each unmerged leaf of the root is listed by the next non-blank parent on the way down to it,
-- or is non-blank if there is none. True if the root is blank or a leaf.
abbrev pub is_carried_down : ℕ → Tree → Bool
is_carried_down first (leaf _) = true
is_carried_down first (branch l None r) = true
is_carried_down first (branch l (Some p) r) = list_all (λ i. is_listed_by_next i first (branch l None r)) p.unmerged

-- `IsCarriedDownAt t p`: so it is with the subtree at node index p, if there is one.
abbrev pub IsCarriedDownAt : Tree → ℕ → Type 0
IsCarriedDownAt t p = (s : Subtree) → subtree_at 0 t p ≡ Some s → IsTrue (is_carried_down s.first s.tree)

-- `AreCarriedDown t`: so it is at every node index.
abbrev pub AreCarriedDown : Tree → Type 0
AreCarriedDown t = (p : ℕ) → IsCarriedDownAt t p
