-- Which leaves are non-blank after a member was added.
use Rattle.std.proofs.Common.{◌≡◌, ◌≢◌, ℕ, ◌+◌, ◌<◌, Option, Some, None, IsSome, refl, sym, ap, ◌∙◌, subst, inl, inr, arith}
use Rattle.std.specs.Prelude.{MatchOption}
use Rattle.std.proofs.lemmas.Bool.{cases_lt}
use Rattle.mls_nodes.specs.declared.leaf.LeafNode.{LeafNode}
use Rattle.mls_tree.specs.Tree.{Tree, height, leaf_count, leaf_at}
use Rattle.mls_tree.specs.BlankLeaves.{first_blank_leaf, IsFirstBlank, AllLeavesNonBlank, AreNonBlankBelow}
use Rattle.mls_tree.specs.TreeOperations.{blank_tree, extend, with_unmerged, add_unmerged, number_or, extended_if_full, added_leaf, add_at, add}
use Rattle.mls_tree.proofs.Trees.{leaf_count-positive}
use Rattle.mls_tree.proofs.Kept.{leaf_at-put_leaf, leaf_at-put_leaf_other, leaf_at-change_above, leaf_count-change_above, leaf_at-extend}
use Rattle.mls_tree.proofs.FirstBlanks.{first_blank_leaf-leftmost}

-- the leaf at which a member is added
pub leaf_at-add_at : (u : Tree) (j : ℕ) (x : LeafNode) → j < leaf_count u → leaf_at 0 (add_at u j x) j ≡ Some x
leaf_at-add_at u j x inside =
    let count = leaf_count-change_above (with_unmerged j) 0 u j in leaf_at-put_leaf 0 (add_unmerged u j) j (Some x) (omega arith) (omega arith)

-- each other leaf
pub leaf_at-add_at_other : (u : Tree) (j i : ℕ) (x : LeafNode) → j < leaf_count u → i ≢ j → leaf_at 0 (add_at u j x) i ≡ leaf_at 0 u i
leaf_at-add_at_other u j i x inside away =
    let count = leaf_count-change_above (with_unmerged j) 0 u j in
    leaf_at-put_leaf_other 0 (add_unmerged u j) j i (Some x) (omega arith) (omega arith) away ∙ leaf_at-change_above (with_unmerged j) 0 u j i

set_up_to : (u : Tree) (j : ℕ) (x : LeafNode) → j < leaf_count u → AreNonBlankBelow u j → AreNonBlankBelow (add_at u j x) (j + 1)
set_up_to u j x inside set i l =
    elim (cases_lt i j) [
      | inl lt ↦ subst (λ o. IsSome o) (sym (leaf_at-add_at_other u j i x inside (λ e. omega arith))) (set i lt)
      | inr ge ↦ (let at : i ≡ j = omega arith in subst (λ o. IsSome o) (sym (ap (λ k. leaf_at 0 (add_at u j x) k) at ∙ leaf_at-add_at u j x inside)) refl)
    ]

by_answer : (t : Tree) (x : LeafNode) (o : Option ℕ) → MatchOption o (AllLeavesNonBlank t) (λ j. IsFirstBlank t j)
    → AreNonBlankBelow (add_at (extended_if_full o t) (number_or (leaf_count t) o) x) (number_or (leaf_count t) o + 1)
by_answer t x None all =
    set_up_to (extend t) (leaf_count t) x (omega (arith, leaf_count-positive (blank_tree (height t)))) (λ i l. subst (λ o. IsSome o) (sym (leaf_at-extend t i)) (all i l))
by_answer t x (Some j) first = set_up_to t j x first.inside first.earlier

-- after a member was added, each leaf up to that member's is non-blank
pub add-set_below : (t : Tree) (x : LeafNode) → AreNonBlankBelow (add t x) (added_leaf t + 1)
add-set_below t x = by_answer t x (first_blank_leaf 0 t) (first_blank_leaf-leftmost t)
