-- The new lists of unmerged leaves, which are made before one is put in place. Internal: no public contract uses this.
use Rattle.std.specs.Prelude.{ℕ, ◌+◌, nat_lt, ◌==◌, if◌then◌else◌, List, [], ◌∷◌, ◌++◌, Option, Some, None}
use Rattle.std.specs.List.{list_any}
use Rattle.mls_nodes.specs.declared.parent.ParentNode.{ParentNode}
use Rattle.mls_tree.specs.Tree.{Tree, leaf, branch, leaf_count}
use Rattle.mls_tree.specs.TreeOperations.{insert_before}

-- The list with i, if it doesn't have it.
abbrev pub changed_list : ℕ → List ℕ → Option (List ℕ)
changed_list i xs = if list_any (λ x. x == i) xs then None else Some (insert_before i xs)

-- The new list of a parent, if it is non-blank and its list changes.
abbrev pub new_list : ℕ → Option ParentNode → Option (List ℕ)
new_list i None = None
new_list i (Some p) = changed_list i p.unmerged

-- The new lists of the parents above leaf i, lowest parent first.
abbrev pub new_lists : ℕ → Tree → ℕ → List (Option (List ℕ))
new_lists first (leaf x) i = []
new_lists first (branch l n r) i =
    (if nat_lt i (first + leaf_count l) then new_lists first l i else new_lists (first + leaf_count l) r i) ++ (new_list i n) ∷ []

-- A non-blank parent with its new list, if there is one.
abbrev pub with_new_list : Option ParentNode → Option (List ℕ) → Option ParentNode
with_new_list None list = None
with_new_list (Some p) None = Some p
with_new_list (Some p) (Some list) = Some (record p { unmerged = list })
