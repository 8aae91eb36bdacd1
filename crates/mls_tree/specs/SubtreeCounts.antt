-- The number of non-blank leaves and nodes under each parent of a tree. Internal: no public contract uses this.
use Rattle.std.specs.Prelude.{◌≡◌, ℕ, ◌+◌, ◌-◌, ◌<◌, ◌≤◌, ◌⊎◌, List, Option, Some, None, length, slice_get}
use Rattle.mls_nodes.specs.declared.parent.ParentNode.{ParentNode}
use Rattle.mls_tree.specs.Tree.{Tree, leaf, branch, leaf_count, member_count}
use Rattle.mls_tree.specs.declared.subtree_counts.Count.{Count}

-- 1 for a non-blank parent, else 0.
abbrev pub parent_weight : Option ParentNode → ℕ
parent_weight None = 0
parent_weight (Some _) = 1

-- The number of non-blank nodes.
abbrev pub non_blank_count : Tree → ℕ
non_blank_count (leaf None) = 0
non_blank_count (leaf (Some _)) = 1
non_blank_count (branch l n r) = non_blank_count l + non_blank_count r + parent_weight n

-- The count of a tree.
abbrev pub subtree_count : Tree → Count
subtree_count t = record { members = member_count t; nodes = non_blank_count t }

-- The count of a tree whose nodes are all blank.
abbrev pub zero_count : Count
zero_count = record { members = 0; nodes = 0 }

-- The list has the count of each parent of a tree. That of the parent with k leaves before its right subtree is at k -
-- 1.
abbrev pub AreCounts : ℕ → Tree → List Count → Type 0
AreCounts first (leaf _) counts = Unit {0}
AreCounts first (branch l n r) counts =
    AreCounts first l counts × AreCounts (first + leaf_count l) r counts × (slice_get counts (first + leaf_count l - 1) ≡ Some (subtree_count (branch l n r)))

-- The list has the count of each parent that is not above leaf i.
abbrev pub AreOutside : ℕ → Tree → ℕ → List Count → Type 0
AreOutside first (leaf _) i counts = Unit {0}
AreOutside first (branch l _ r) i counts =
    (i < first + leaf_count l → AreOutside first l i counts × AreCounts (first + leaf_count l) r counts)
    × (first + leaf_count l ≤ i → AreCounts first l counts × AreOutside (first + leaf_count l) r i counts)

-- The list has changed only from `low` up to before `high`.
pub record IsKeptOutside (old new : List Count) (low high : ℕ) : Type 0 where
  pub count : length new ≡ length old
  pub outside : (p : ℕ) → (p < low) ⊎ (high ≤ p) → slice_get new p ≡ slice_get old p
