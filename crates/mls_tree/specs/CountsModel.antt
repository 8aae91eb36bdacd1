-- The optional counts of a tree. Internal: no public contract uses this.
use Rattle.std.specs.Prelude.{◌≡◌, ℕ, ◌+◌, ◌≤◌, List, Option, Some, None, length}
use Rattle.std.specs.Vec.{vec_len, vec_capacity}
use Rattle.mls_tree.specs.Tree.{Tree, leaf_count}
use Rattle.mls_tree.specs.SubtreeCounts.{AreCounts, AreOutside}
use Rattle.mls_tree.specs.declared.subtree_counts.Count.{Count}
use Rattle.mls_tree.specs.declared.cached_counts.Counts.{Counts}

-- `AreCountsIn counts t`: the counts are those of the tree's parents.
abbrev pub AreCountsIn : Option Counts → Tree → Type 0
AreCountsIn None t = Unit {0}
AreCountsIn (Some c) t = (length c.list.items + 1 ≡ leaf_count t) × AreCounts 0 t c.list.items

-- `AreBesideIn counts t i`: the counts are right, except those of the parents above leaf i.
abbrev pub AreBesideIn : Option Counts → Tree → ℕ → Type 0
AreBesideIn None t i = Unit {0}
AreBesideIn (Some c) t i = (length c.list.items + 1 ≡ leaf_count t) × AreOutside 0 t i c.list.items

-- `AreFrontOf counts t`: the list begins with the counts of the tree's parents.
abbrev pub AreFrontOf : Option Counts → Tree → Type 0
AreFrontOf None t = Unit {0}
AreFrontOf (Some c) t = (leaf_count t ≤ length c.list.items + 1) × AreCounts 0 t c.list.items

-- `AreCountsIfAny counts first t`: the counts, if there are any, contain those of a subtree whose first leaf has the
-- index `first`.
abbrev pub AreCountsIfAny : Option (List Count) → ℕ → Tree → Type 0
AreCountsIfAny None first t = Unit {0}
AreCountsIfAny (Some cs) first t = (first + leaf_count t ≤ length cs + 1) × AreCounts first t cs

-- `AreNoMore front whole`: if there are both counts, `whole` has at least as many as `front`.
abbrev pub AreNoMore : Option Counts → Option Counts → Type 0
AreNoMore None whole = Unit {0}
AreNoMore (Some c) None = Unit {0}
AreNoMore (Some c) (Some d) = length c.list.items ≤ length d.list.items

-- `CanDouble counts`: there is capacity for the counts of a tree twice as large.
abbrev pub CanDouble : Option Counts → Type 0
CanDouble None = Unit {0}
CanDouble (Some c) = vec_len c.list + (length c.list.items + 1) ≤ vec_capacity c.list
