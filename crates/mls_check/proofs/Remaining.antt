-- A tree stays sound under a change that touches no subtree of a set parent that remains.
use Rattle.std.proofs.Common.{◌≡◌, ◌∙◌, ℕ, zero, suc, ◌+◌, ◌*◌, ◌<◌, ◌≤◌, IsTrue, List, Option, Some, None, refl, sym, ap, subst, inl, inr, arith, nat_eq}
use Rattle.std.specs.Prelude.{◌⊎◌}
use Rattle.std.proofs.lemmas.Bool.{cases_lt, cases_order}
use Rattle.std.proofs.lemmas.Option.{same_Some, cond_some}
use Rattle.mls_nodes.specs.declared.leaf.LeafNode.{LeafNode}
use Rattle.mls_nodes.specs.declared.parent.ParentNode.{ParentNode}
use Rattle.mls_tree.specs.Tree.{Tree, leaf, branch, height, leaf_count, Subtree, subtree_at, entry_of, root_entry}
use Rattle.mls_tree.specs.TreeOperations.{put_leaf, change_above, has_non_blank_leaf, truncate, blank_tree, extend, update, remove}
use Rattle.mls_tree.proofs.Choices.{below, from}
use Rattle.mls_tree.proofs.Kept.{either, leaf_count-change_above, leaf_count-put_leaf}
use Rattle.mls_tree.proofs.Trees.{subtree_at-stands, subtree_at-here, subtree_at-in_left, subtree_at-in_right}
use Rattle.mls_check.specs.ParentHashValid.{IsNonBlankParent, IsParentHashValid}
use Rattle.mls_check.specs.UnmergedLists.{HasSortedList, is_consistent, HasStrictlyIncreasingLists, HasConsistentUnmerged}
use Rattle.mls_check.specs.PreservedValidity.{HasValidUnmergedLists, IsParentHashValidTree, HasParentsOf}
use Rattle.mls_check.proofs.Carrying.{HasOwnList, marks-any}
use Rattle.mls_check.proofs.Everywhere.{everywhere-at}
use Rattle.mls_check.proofs.SoundSubtrees.{own_lists}
use Rattle.mls_check.proofs.Reaching.{in_left, in_right}

-- the same of parts of trees
abbrev Parents : ℕ → Tree → Tree → Type 0
Parents first t u = (p : ℕ) (s : Subtree) → subtree_at first t p ≡ Some s → IsNonBlankParent s.tree → subtree_at first u p ≡ Some s

-- a subtree is the whole, or one of a half
descend : (first : ℕ) (l : Tree) (n : Option ParentNode) (r : Tree) (p : ℕ) (s : Subtree) → subtree_at first (branch l n r) p ≡ Some s
    → (s ≡ record { first = first; tree = branch l n r }) ⊎ ((subtree_at first l p ≡ Some s) ⊎ (subtree_at (first + leaf_count l) r p ≡ Some s))
descend first l n r p s e =
    elim (cases_order (p + 1) (2 * (first + leaf_count l))) [
      | inl at ↦ inl (same_Some s (record { first = first; tree = branch l n r }) (sym e ∙ subtree_at-here first l n r p at))
      | inr (inl lt) ↦ inr (inl (sym (subtree_at-in_left first l n r p lt) ∙ e))
      | inr (inr gt) ↦ inr (inr (sym (subtree_at-in_right first l n r p gt) ∙ e))
    ]

-- a leaf is no parent
leaf_only : (first : ℕ) (y : Option LeafNode) (p : ℕ) (s : Subtree) → subtree_at first (leaf y) p ≡ Some s → ¬ IsNonBlankParent s.tree
leaf_only first y p s e =
    subst (λ (u : Subtree). ¬ IsNonBlankParent u.tree) (cond_some (nat_eq p (2 * first)) (record { first = first; tree = leaf y }) s e).1 (λ h. h)

blank_only : (first h p : ℕ) (s : Subtree) → subtree_at first (blank_tree h) p ≡ Some s → ¬ IsNonBlankParent s.tree
blank_only first zero p s e = leaf_only first None p s e
blank_only first (suc h) p s e =
    elim (descend first (blank_tree h) None (blank_tree h) p s e) [
      | inl is ↦ subst (λ (u : Subtree). ¬ IsNonBlankParent u.tree) (sym is) (λ set. set)
      | inr (inl a) ↦ blank_only first h p s a
      | inr (inr b) ↦ blank_only (first + leaf_count (blank_tree h)) h p s b
    ]

-- under a blank parent
under_blank : (first : ℕ) (l k : Tree) (n : Option ParentNode) (r v : Tree) → leaf_count l ≡ leaf_count k → Parents first l k → Parents (first + leaf_count l) r v
    → Parents first (branch l None r) (branch k n v)
under_blank first l k n r v count a b p s e set =
    elim (descend first l None r p s e) [
      | inl is ↦ absurd (subst (λ (u : Subtree). IsNonBlankParent u.tree) is set)
      | inr (inl x) ↦ in_left first k n v p s (a p s x set)
      | inr (inr y) ↦ in_right first k n v p s (ap (λ m. subtree_at (first + m) v p) (sym count) ∙ b p s y set)
    ]

cleared : ℕ → Tree → ℕ → Option LeafNode → Tree
cleared first t i x = change_above (λ _. None) first (put_leaf first t i x) i

leaf_count-cleared : (first : ℕ) (t : Tree) (i : ℕ) (x : Option LeafNode) → leaf_count (cleared first t i x) ≡ leaf_count t
unfolding cleared
leaf_count-cleared first t i x = leaf_count-change_above (λ _. None) first (put_leaf first t i x) i ∙ leaf_count-put_leaf first t i x

module _ (first : ℕ) (l : Tree) (n : Option ParentNode) (r : Tree) (i : ℕ) (x : Option LeafNode) where
  cleared-left : i < first + leaf_count l → cleared first (branch l n r) i x ≡ branch (cleared first l i x) None r
  unfolding cleared
  cleared-left lt =
      ap (λ t. change_above (λ _. None) first t i) (below i (first + leaf_count l) (branch (put_leaf first l i x) n r) (branch l n (put_leaf (first + leaf_count l) r i x)) lt)
      ∙ below i (first + leaf_count (put_leaf first l i x)) (branch (cleared first l i x) None r)
      (branch (put_leaf first l i x) None (change_above (λ _. None) (first + leaf_count (put_leaf first l i x)) r i)) (let c = leaf_count-put_leaf first l i x in omega (arith, c, lt))

  cleared-right : first + leaf_count l ≤ i → cleared first (branch l n r) i x ≡ branch l None (cleared (first + leaf_count l) r i x)
  unfolding cleared
  cleared-right ge =
      ap (λ t. change_above (λ _. None) first t i) (from i (first + leaf_count l) (branch (put_leaf first l i x) n r) (branch l n (put_leaf (first + leaf_count l) r i x)) ge)
      ∙ from i (first + leaf_count l) (branch (change_above (λ _. None) first l i) None (put_leaf (first + leaf_count l) r i x))
      (branch l None (cleared (first + leaf_count l) r i x)) ge

cleared_leaf : (first : ℕ) (y : Option LeafNode) (i : ℕ) (x : Option LeafNode) → cleared first (leaf y) i x ≡ leaf x
unfolding cleared
cleared_leaf first y i x = refl

parents_cleared : (first : ℕ) (t : Tree) (i : ℕ) (x : Option LeafNode) → Parents first (cleared first t i x) t
parents_cleared first (leaf y) i x = λ p s e set. absurd (leaf_only first x p s (ap (λ u. subtree_at first u p) (sym (cleared_leaf first y i x)) ∙ e) set)
parents_cleared first (branch l n r) i x =
    elim (cases_lt i (first + leaf_count l)) [
      | inl lt ↦
          subst (λ u. Parents first u (branch l n r)) (sym (cleared-left first l n r i x lt))
          (under_blank first (cleared first l i x) l n r r (leaf_count-cleared first l i x) (parents_cleared first l i x)
          (λ p s e set. e))
      | inr ge ↦
          subst (λ u. Parents first u (branch l n r)) (sym (cleared-right first l n r i x ge))
          (under_blank first l l n (cleared (first + leaf_count l) r i x) r refl (λ p s e set. e) (parents_cleared (first + leaf_count l) r i x))
    ]

parents_shrink : (first : ℕ) (t : Tree) → Parents first (truncate t) t
parents_shrink first (leaf y) = λ p s e set. e
parents_shrink first (branch l n r) =
    either (λ u. Parents first u (branch l n r)) (has_non_blank_leaf r) (branch l n r) (truncate l) (λ p s e set. e)
    (λ p s e set. in_left first l n r p s (parents_shrink first l p s e set))

pub shrink_parents : (t : Tree) → HasParentsOf (truncate t) t
shrink_parents t = parents_shrink 0 t

pub grow_parents : (t : Tree) → HasParentsOf (extend t) t
grow_parents t p s e set =
    elim (descend 0 t None (blank_tree (height t)) p s e) [
      | inl is ↦ absurd (subst (λ (u : Subtree). IsNonBlankParent u.tree) is set)
      | inr (inl a) ↦ a
      | inr (inr b) ↦ absurd (blank_only (0 + leaf_count t) (height t) p s b set)
    ]

pub update_parents : (t : Tree) (i : ℕ) (x : LeafNode) → HasParentsOf (update t i x) t
unfolding cleared
update_parents t i x = parents_cleared 0 t i (Some x)

pub remove_parents : (t : Tree) (i : ℕ) → HasParentsOf (remove t i) t
unfolding cleared
remove_parents t i p s e set = parents_cleared 0 t i None p s (parents_shrink 0 (cleared 0 t i None) p s e set) set

-- ---- sound trees

module _ (t u : Tree) (h : HasParentsOf t u) where
  sorted_top : (s : Subtree) → (IsNonBlankParent s.tree → HasSortedList (root_entry s.tree)) → HasSortedList (root_entry s.tree)
  sorted_top s k = go s.tree k
    where
      go : (v : Tree) → (IsNonBlankParent v → HasSortedList (root_entry v)) → HasSortedList (root_entry v)
      go (leaf None) k = tt
      go (leaf (Some x)) k = tt
      go (branch l None r) k = tt
      go (branch l (Some q) r) k = k tt

  consistent_top : (s : Subtree) → (IsNonBlankParent s.tree → IsTrue (is_consistent s.first s.tree)) → IsTrue (is_consistent s.first s.tree)
  consistent_top s k = go s.tree k
    where
      go : (v : Tree) → (IsNonBlankParent v → IsTrue (is_consistent s.first v)) → IsTrue (is_consistent s.first v)
      go (leaf x) k = refl
      go (branch l None r) k = refl
      go (branch l (Some q) r) k = k tt

  parts_sorted : HasStrictlyIncreasingLists u → HasStrictlyIncreasingLists t
  parts_sorted sorted p = by_place (subtree_at 0 t p) refl
    where
      by_place : (o : Option Subtree) → subtree_at 0 t p ≡ o → HasSortedList (entry_of o)
      by_place None e = tt
      by_place (Some s) e = sorted_top s (λ set. subst (λ o. HasSortedList (entry_of o)) (h p s e set) (sorted p))

  pub parts_consistent : HasConsistentUnmerged u → HasConsistentUnmerged t
  parts_consistent consistent p s e = consistent_top s (λ set. consistent p s (h p s e set))

  pub parts_lists : HasValidUnmergedLists u → HasValidUnmergedLists t
  parts_lists lists = record { sorted = parts_sorted lists.sorted; consistent = parts_consistent lists.consistent }

  parts_reached : (H : List ℕ → List ℕ) → HasConsistentUnmerged u → IsParentHashValid H u → IsParentHashValid H t
  parts_reached H consistent marks p s e set =
      let there = h p s e set in
      let here = subtree_at-stands 0 t p s e in
      let at = subtree_at-stands 0 u p s there in
      marks-any (leaf_count u) (leaf_count t) H s
      (record {
        own = everywhere-at HasOwnList 0 u p s there (own_lists u consistent);
        low = omega (arith, at.to_right);
        lower = omega (arith, here.to_right);
      })
      (marks p s there set)

pub parts_sound : (H : List ℕ → List ℕ) (t u : Tree) → HasParentsOf t u → IsParentHashValidTree H u → IsParentHashValidTree H t
parts_sound H t u h sound = record {
  sorted = parts_sorted t u h sound.sorted;
  consistent = parts_consistent t u h sound.consistent;
  parent_hashes = parts_reached t u h H sound.consistent sound.parent_hashes;
}

pub sound_grow : (H : List ℕ → List ℕ) (t : Tree) → IsParentHashValidTree H t → IsParentHashValidTree H (extend t)
sound_grow H t h = parts_sound H (extend t) t (grow_parents t) h
