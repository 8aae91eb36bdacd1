-- The parents above several leaves, once the indices of these leaves are added to their lists of unmerged leaves.
-- `first` is the index of the first leaf of the subtree. Internal: no public contract uses this.
use Rattle.std.specs.Prelude.{ℕ, ◌+◌, ◌*◌, ◌-◌, nat_lt, ◌||◌, not, Bool, false, List, [], ◌∷◌, ◌++◌, filter, Option, Some, None}
use Rattle.mls_nodes.specs.declared.parent.ParentNode.{ParentNode}
use Rattle.mls_tree.specs.Tree.{Tree, leaf, branch, leaf_count}
use Rattle.mls_tree.specs.TreeOperations.{insert_number, with_unmerged, is_overfilled}
use Rattle.mls_tree.specs.declared.merged_parents.NewParent.{NewParent}

-- `insert_numbers is xs` is the list with the numbers `is` inserted, one after the other, unless it has them.
abbrev pub insert_numbers : List ℕ → List ℕ → List ℕ
insert_numbers [] xs = xs
insert_numbers (i ∷ is) xs = insert_numbers is (insert_number i xs)

-- `with_all_unmerged is n` is the parent with the leaves `is` in its unmerged list, if it is non-blank.
abbrev pub with_all_unmerged : List ℕ → Option ParentNode → Option ParentNode
with_all_unmerged is None = None
with_all_unmerged is (Some n) = Some (record n { unmerged = insert_numbers is n.unmerged })

-- `overfills_parent is n`: the unmerged list of the parent cannot take one of `is`, added one after the other.
abbrev pub overfills_parent : List ℕ → Option ParentNode → Bool
overfills_parent [] n = false
overfills_parent (i ∷ is) n = is_overfilled i n || overfills_parent is (with_unmerged i n)

-- `leaves_before middle is` is the entries below `middle`.
abbrev pub leaves_before : ℕ → List ℕ → List ℕ
leaves_before middle is = filter (λ i. nat_lt i middle) is

-- `leaves_from middle is` is the other entries.
abbrev pub leaves_from : ℕ → List ℕ → List ℕ
leaves_from middle is = filter (λ i. not (nat_lt i middle)) is

-- `overfills_below first t is`: the unmerged list of some parent cannot take one of the leaves `is` that are below it.
abbrev pub overfills_below : ℕ → Tree → List ℕ → Bool
overfills_below first (leaf x) is = false
overfills_below first (branch l n r) is =
    (overfills_below first l (leaves_before (first + leaf_count l) is) || overfills_below (first + leaf_count l) r (leaves_from (first + leaf_count l) is)) || overfills_parent is n

-- `new_parent p is n` is the node index p with the parent that replaces `n` there, if `n` is non-blank and `is` not empty.
abbrev pub new_parent : ℕ → List ℕ → Option ParentNode → List (ℕ × ParentNode)
new_parent p [] n = []
new_parent p (i ∷ is) None = []
new_parent p (i ∷ is) (Some n) = (p, record n { unmerged = insert_numbers (i ∷ is) n.unmerged }) ∷ []

-- `new_parents first t is` is the parents that replace the non-blank ones above the leaves `is`, each with its node
-- index, the topmost last.
abbrev pub new_parents : ℕ → Tree → List ℕ → List (ℕ × ParentNode)
new_parents first (leaf x) is = []
new_parents first (branch l n r) is =
    (new_parents first l (leaves_before (first + leaf_count l) is) ++ new_parents (first + leaf_count l) r (leaves_from (first + leaf_count l) is))
    ++ new_parent (2 * (first + leaf_count l) - 1) is n

-- `replacement new` is the node index and the parent that replaces the one there.
abbrev pub replacement : NewParent → ℕ × ParentNode
replacement new = (new.node_index, new.parent.value)
