-- The operations on a tree (RFC 9420, 7.7 and 12.1). Each follows a leaf index down from the root. `first` is the index
-- of the first leaf of the subtree. Used by contracts.
use Rattle.std.specs.Prelude.{ℕ, zero, suc, ◌+◌, ◌*◌, ◌==◌, nat_lt, length, if◌then◌else◌, ◌||◌, Bool, true, false, IsTrue, List, [], ◌∷◌, Option, Some, None}
use Rattle.std.specs.List.{list_any}
use Rattle.mls_nodes.specs.Limits.{leaf_limit}
use Rattle.mls_nodes.specs.declared.leaf.LeafNode.{LeafNode}
use Rattle.mls_nodes.specs.declared.parent.ParentNode.{ParentNode}
use Rattle.mls_tree.specs.Tree.{Tree, leaf, branch, height, leaf_count, subtree_at, entry_of}
use Rattle.mls_tree.specs.NodeView.{parent_of}
use Rattle.mls_tree.specs.BlankLeaves.{first_blank_leaf}

-- `put_leaf first t i x` is the tree with `x` as leaf i: the call `set_leaf`. If i is outside the tree, the last leaf
-- is replaced; calls check that it is inside.
abbrev pub put_leaf : ℕ → Tree → ℕ → Option LeafNode → Tree
put_leaf first (leaf _) i x = leaf x
put_leaf first (branch l n r) i x =
    if nat_lt i (first + leaf_count l) then branch (put_leaf first l i x) n r else branch l n (put_leaf (first + leaf_count l) r i x)

-- `put_parent first t p x` is the tree with `x` as the parent at node index p.
abbrev pub put_parent : ℕ → Tree → ℕ → Option ParentNode → Tree
put_parent first (leaf y) p x = leaf y
put_parent first (branch l n r) p x =
    if p + 1 == 2 * (first + leaf_count l)
    then branch l x r
    else (if nat_lt (p + 1) (2 * (first + leaf_count l))
    then branch (put_parent first l p x) n r
    else branch l n (put_parent (first + leaf_count l) r p x))

-- `change_parent f first t p` is the tree with the parent at node index p changed by `f`.
abbrev pub change_parent : (Option ParentNode → Option ParentNode) → ℕ → Tree → ℕ → Tree
change_parent f first t p = put_parent first t p (f (parent_of (entry_of (subtree_at first t p))))

-- `change_above f first t i` is the tree with each parent above leaf i changed by `f`.
abbrev pub change_above : (Option ParentNode → Option ParentNode) → ℕ → Tree → ℕ → Tree
change_above f first (leaf x) i = leaf x
change_above f first (branch l n r) i =
    if nat_lt i (first + leaf_count l) then branch (change_above f first l i) (f n) r else branch l (f n) (change_above f (first + leaf_count l) r i)

-- `blank_path t i` is the tree with each parent above leaf i blank (RFC 9420, 12.1.2 and 12.1.3): the call
-- `blank_path`.
abbrev pub blank_path : Tree → ℕ → Tree
blank_path t i = change_above (λ _. None) 0 t i

-- `insert_before i xs` is the list with i before the first entry that is not less.
abbrev pub insert_before : ℕ → List ℕ → List ℕ
insert_before i [] = i ∷ []
insert_before i (x ∷ xs) = if nat_lt x i then x ∷ insert_before i xs else i ∷ x ∷ xs

-- `insert_number i xs` is the list with i inserted, unless it has i.
abbrev pub insert_number : ℕ → List ℕ → List ℕ
insert_number i xs = if list_any (λ x. x == i) xs then xs else insert_before i xs

-- `with_unmerged i p` is the parent with leaf i in its unmerged list, if it is non-blank.
abbrev pub with_unmerged : ℕ → Option ParentNode → Option ParentNode
with_unmerged i None = None
with_unmerged i (Some p) = Some (record p { unmerged = insert_number i p.unmerged })

-- `without_number i xs` is the list without the first entry that is i.
abbrev pub without_number : ℕ → List ℕ → List ℕ
without_number i [] = []
without_number i (x ∷ xs) = if x == i then xs else x ∷ without_number i xs

-- `without_unmerged i p` is the parent without leaf i in its unmerged list.
abbrev pub without_unmerged : ℕ → Option ParentNode → Option ParentNode
without_unmerged i None = None
without_unmerged i (Some p) = Some (record p { unmerged = without_number i p.unmerged })

-- `add_unmerged t i` is the tree with leaf i in the unmerged list of each non-blank parent above it (RFC 9420,
-- 12.1.1): the call `add_unmerged`.
abbrev pub add_unmerged : Tree → ℕ → Tree
add_unmerged t i = change_above (with_unmerged i) 0 t i

-- `is_overfilled i p`: the unmerged list of a non-blank parent would have more entries than a tree may have leaves,
-- with i in it.
abbrev pub is_overfilled : ℕ → Option ParentNode → Bool
is_overfilled i None = false
is_overfilled i (Some p) = nat_lt leaf_limit (length (insert_number i p.unmerged))

-- `is_overfilled_above first t i`: `is_overfilled` holds of some parent above leaf i.
abbrev pub is_overfilled_above : ℕ → Tree → ℕ → Bool
is_overfilled_above first (leaf x) i = false
is_overfilled_above first (branch l n r) i =
    (if nat_lt i (first + leaf_count l) then is_overfilled_above first l i else is_overfilled_above (first + leaf_count l) r i) || is_overfilled i n

-- `IsOverfull t i`: some unmerged list above leaf i cannot take its index.
abbrev pub IsOverfull : Tree → ℕ → Type 0
IsOverfull t i = IsTrue (is_overfilled_above 0 t i)

-- `add_all_unmerged is t` is the tree with the leaf indices `is` added, one after the other, to the unmerged lists above
-- them (RFC 9420, 12.1.1): the call `add_all_unmerged`.
abbrev pub add_all_unmerged : List ℕ → Tree → Tree
add_all_unmerged [] t = t
add_all_unmerged (i ∷ is) t = add_all_unmerged is (add_unmerged t i)

-- `overfills is t`: one of the steps of `add_all_unmerged is t` adds a leaf index above which some unmerged list cannot
-- take it.
abbrev pub overfills : List ℕ → Tree → Bool
overfills [] t = false
overfills (i ∷ is) t = is_overfilled_above 0 t i || overfills is (add_unmerged t i)

-- `has_non_blank_leaf t`: some leaf is non-blank.
abbrev pub has_non_blank_leaf : Tree → Bool
has_non_blank_leaf (leaf None) = false
has_non_blank_leaf (leaf (Some _)) = true
has_non_blank_leaf (branch l _ r) = has_non_blank_leaf l || has_non_blank_leaf r

-- `truncate t` is the tree truncated while its right subtree has no non-blank leaf (RFC 9420, 7.7): the call
-- `truncate`.
abbrev pub truncate : Tree → Tree
truncate (leaf x) = leaf x
truncate (branch l n r) = if has_non_blank_leaf r then branch l n r else truncate l

-- `blank_tree h` is the tree of height h whose nodes are all blank.
abbrev pub blank_tree : ℕ → Tree
blank_tree zero = leaf None
blank_tree (suc h) = branch (blank_tree h) None (blank_tree h)

-- `left_subtree t` is the left subtree, if the tree is no leaf.
abbrev pub left_subtree : Tree → Tree
left_subtree (leaf x) = leaf x
left_subtree (branch l _ _) = l

-- `front_subtree h t` is the leftmost subtree of height h. It is `t` if `t` is not higher.
abbrev pub front_subtree : ℕ → Tree → Tree
front_subtree h (leaf x) = leaf x
front_subtree h (branch l n r) = if nat_lt (height l) h then branch l n r else front_subtree h l

-- `rejoined t w` is the tree `w` with `t` as its leftmost subtree of that height. It is `t` if `w` is not higher.
abbrev pub rejoined : Tree → Tree → Tree
rejoined t (leaf x) = t
rejoined t (branch l n r) = if nat_lt (height l) (height t) then t else branch (rejoined t l) n r

-- `extend t` is the tree as the left subtree of one twice as large, whose other nodes are blank (RFC 9420, 7.7): the
-- call `extend`.
abbrev pub extend : Tree → Tree
extend t = branch t None (blank_tree (height t))

-- `update t i x` is the tree after an Update: leaf i is `x`, and the parents above it are blank (RFC 9420, 12.1.2).
abbrev pub update : Tree → ℕ → LeafNode → Tree
update t i x = blank_path (put_leaf 0 t i (Some x)) i

-- `remove t i` is the tree after a Remove: leaf i and the parents above it are blank, and the tree is truncated
-- (RFC 9420, 12.1.3).
abbrev pub remove : Tree → ℕ → Tree
remove t i = truncate (blank_path (put_leaf 0 t i None) i)

-- `number_or n o` is the index, or n if there is none.
abbrev pub number_or : ℕ → Option ℕ → ℕ
number_or n None = n
number_or n (Some j) = j

-- `added_leaf t` is the leaf of an added member: the leftmost blank one, otherwise the first leaf by which the tree is
-- extended (RFC 9420, 12.1.1).
abbrev pub added_leaf : Tree → ℕ
added_leaf t = number_or (leaf_count t) (first_blank_leaf 0 t)

-- `extended_if_full blank t` is the tree, extended if it has no blank leaf.
abbrev pub extended_if_full : Option ℕ → Tree → Tree
extended_if_full None t = extend t
extended_if_full (Some _) t = t

-- `add_at t j x` is the tree with `x` as leaf j, unmerged in each non-blank parent above it.
abbrev pub add_at : Tree → ℕ → LeafNode → Tree
add_at t j x = put_leaf 0 (add_unmerged t j) j (Some x)

-- `add t x` is the tree after an Add of a member with leaf node `x` (RFC 9420, 12.1.1).
abbrev pub add : Tree → LeafNode → Tree
add t x = add_at (extended_if_full (first_blank_leaf 0 t) t) (added_leaf t) x

-- A tree, and the leaf index of it that a new member takes.
pub record Seat : Type 0 where
  pub tree : Tree
  pub leaf : ℕ

-- `seat t` is the tree, extended if it has no blank leaf, and the leaf that a new member takes: the leftmost blank one (RFC
-- 9420, 7.7, 12.1.1 and 12.4.3.2). The leaf is still blank.
abbrev pub seat : Tree → Seat
seat t = record { tree = extended_if_full (first_blank_leaf 0 t) t; leaf = added_leaf t }
