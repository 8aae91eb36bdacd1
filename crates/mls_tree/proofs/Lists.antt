-- The new lists of the parents above a leaf: made from the lowest up, and taken from the top down.
use Rattle.std.proofs.Common.{◌≡◌, ◌≢◌, ℕ, suc, ◌+◌, ◌*◌, ◌-◌, ◌<◌, ◌≤◌, List, [], ◌∷◌, ◌++◌, Option, Some, None, refl, sym, ap, ◌∙◌, subst, arith, append_assoc, option_to_list, length, inl, inr, not, ltb-false}
use Rattle.std.specs.Prelude.{slice_get, slice_set}
use Rattle.mls_nodes.specs.declared.parent.ParentNode.{ParentNode}
use Rattle.mls_nodes.specs.declared.node.Node.{Node}
use Rattle.mls_tree.specs.Tree.{leaf_count}
use Rattle.mls_tree.specs.TreeInternal.{leaves_at}
use Rattle.mls_tree.specs.NodeArray.{parent_part, tree_in}
use Rattle.std.specs.Prelude.{◌==◌, if◌then◌else◌, Bool, true, false, ◌||◌, nat_lt}
use Rattle.std.proofs.lemmas.Bool.{cases_lt}
use Rattle.std.specs.List.{list_any}
use Rattle.mls_tree.specs.TreeOperations.{with_unmerged, insert_before, insert_number, is_overfilled, is_overfilled_above}
use Rattle.mls_tree.specs.NewUnmergedLists.{new_list, new_lists, with_new_list}
use Rattle.mls_tree.proofs.Choices.{below, from, not_less, is_less}
use Rattle.mls_tree.proofs.Numbers.{leaves_at-positive}
use Rattle.mls_tree.proofs.Arrays.{tree_in-same, slice_get-set_other}
use Rattle.mls_tree.proofs.Walking.{tree_in-split, near-count}

module _ (xs : List (Option Node)) (first half level : ℕ) (deep : level ≢ 0) (e : half ≡ leaves_at (level - 1)) (i : ℕ) where
  pub new_lists-left : i < first + half
      → new_lists first (tree_in xs level first) i ≡ new_lists first (tree_in xs (level - 1) first) i ++ (new_list i (parent_part (slice_get xs (2 * (first + half) - 1)))) ∷ []
  new_lists-left lt =
      let c = near-count xs first half level deep e in
      let p = parent_part (slice_get xs (2 * (first + half) - 1)) in
      let l = tree_in xs (level - 1) first in
      let r = tree_in xs (level - 1) (first + half) in
      ap (λ t. new_lists first t i) (tree_in-split xs first half level deep e)
      ∙ ap (λ v. v ++ (new_list i p) ∷ []) (below i (first + leaf_count l) (new_lists first l i) (new_lists (first + leaf_count l) r i) (omega arith))

  pub new_lists-right : first + half ≤ i
      → new_lists first (tree_in xs level first) i ≡ new_lists (first + half) (tree_in xs (level - 1) (first + half)) i ++ (new_list i (parent_part (slice_get xs (2 * (first + half) - 1)))) ∷ []
  new_lists-right ge =
      let c = near-count xs first half level deep e in
      let p = parent_part (slice_get xs (2 * (first + half) - 1)) in
      let l = tree_in xs (level - 1) first in
      let r = tree_in xs (level - 1) (first + half) in
      ap (λ t. new_lists first t i) (tree_in-split xs first half level deep e)
      ∙ ap (λ v. v ++ (new_list i p) ∷ []) (from i (first + leaf_count l) (new_lists first l i) (new_lists (first + leaf_count l) r i) (omega arith))
      ∙ ap (λ k. new_lists (first + k) r i ++ (new_list i p) ∷ []) c

  -- whether a list that is passed is full
  pub overfilled-left : i < first + half
      → is_overfilled_above first (tree_in xs level first) i ≡ (is_overfilled_above first (tree_in xs (level - 1) first) i || is_overfilled i (parent_part (slice_get xs (2 * (first + half) - 1))))
  overfilled-left lt =
      let c = near-count xs first half level deep e in
      let p = parent_part (slice_get xs (2 * (first + half) - 1)) in
      let l = tree_in xs (level - 1) first in
      let r = tree_in xs (level - 1) (first + half) in
      ap (λ t. is_overfilled_above first t i) (tree_in-split xs first half level deep e)
      ∙ ap (λ v. v || is_overfilled i p) (below i (first + leaf_count l) (is_overfilled_above first l i) (is_overfilled_above (first + leaf_count l) r i) (omega arith))

  pub overfilled-right : first + half ≤ i
      → is_overfilled_above first (tree_in xs level first) i ≡ (is_overfilled_above (first + half) (tree_in xs (level - 1) (first + half)) i || is_overfilled i (parent_part (slice_get xs (2 * (first + half) - 1))))
  overfilled-right ge =
      let c = near-count xs first half level deep e in
      let p = parent_part (slice_get xs (2 * (first + half) - 1)) in
      let l = tree_in xs (level - 1) first in
      let r = tree_in xs (level - 1) (first + half) in
      ap (λ t. is_overfilled_above first t i) (tree_in-split xs first half level deep e)
      ∙ ap (λ v. v || is_overfilled i p) (from i (first + leaf_count l) (is_overfilled_above first l i) (is_overfilled_above (first + leaf_count l) r i) (omega arith))
      ∙ ap (λ k. is_overfilled_above (first + k) r i || is_overfilled i p) c

  module _ (old mid new : List (Option (List ℕ))) (o : Option (List ℕ)) (p : Option ParentNode) (at : parent_part (slice_get xs (2 * (first + half) - 1)) ≡ p) (made : o ≡ new_list i p) (pushed : new ≡ mid ++ o ∷ []) where
    pub new_lists-pushed_left : i < first + half → mid ≡ old ++ new_lists first (tree_in xs (level - 1) first) i → new ≡ old ++ new_lists first (tree_in xs level first) i
    new_lists-pushed_left lt ih =
        pushed ∙ (λ j. ih j ++ (made ∙ ap (λ v. new_list i v) (sym at)) j ∷ []) ∙ append_assoc old _ _ ∙ ap (λ v. old ++ v) (sym (new_lists-left lt))

    pub new_lists-pushed_right : first + half ≤ i → mid ≡ old ++ new_lists (first + half) (tree_in xs (level - 1) (first + half)) i → new ≡ old ++ new_lists first (tree_in xs level first) i
    new_lists-pushed_right ge ih =
        pushed ∙ (λ j. ih j ++ (made ∙ ap (λ v. new_list i v) (sym at)) j ∷ []) ∙ append_assoc old _ _ ∙ ap (λ v. old ++ v) (sym (new_lists-right ge))

-- the last element of a list, taken off
snoc-same : {X : Type 0} → (xs ys : List X) (a b : X) → xs ++ a ∷ [] ≡ ys ++ b ∷ [] → (xs ≡ ys) × (a ≡ b)
snoc-same [] [] a b e = (refl, cc)
snoc-same [] (y ∷ []) a b e = absurd (cc)
snoc-same [] (y ∷ z ∷ ys) a b e = absurd (cc)
snoc-same (x ∷ []) [] a b e = absurd (cc)
snoc-same (x ∷ z ∷ xs) [] a b e = absurd (cc)
snoc-same (x ∷ xs) (y ∷ ys) a b e =
    let h = snoc-same xs ys a b (cc) in
    let q : x ≡ y = cc in
    ((λ i. q i ∷ h.0 i), h.1)

pub popped : {X : Type 0} → (all rest xs : List X) (a b : X) (r : Option X) → r ≡ Some b → all ≡ rest ++ option_to_list r → all ≡ xs ++ a ∷ [] → (rest ≡ xs) × (b ≡ a)
popped all rest xs a b r s e f = snoc-same rest xs b a (sym (ap (λ v. rest ++ option_to_list v) s) ∙ sym e ∙ f)

-- a list that doesn't have a number gets one entry more
insert_before-either : (i x : ℕ) (xs : List ℕ) (b : Bool) → length (insert_before i xs) ≡ suc (length xs)
    → length (if b then x ∷ insert_before i xs else i ∷ x ∷ xs) ≡ suc (suc (length xs))
insert_before-either i x xs true ih = ap (λ n. suc n) ih
insert_before-either i x xs false ih = refl

pub insert_before-length : (i : ℕ) (xs : List ℕ) → length (insert_before i xs) ≡ suc (length xs)
insert_before-length i [] = refl
insert_before-length i (x ∷ xs) = insert_before-either i x xs (nat_lt x i) (insert_before-length i xs)

pub insert_number-absent : (i : ℕ) (xs : List ℕ) → list_any (λ x. x == i) xs ≡ false → length (insert_number i xs) ≡ suc (length xs)
insert_number-absent i xs e = ap (λ (b : Bool). length (if b then xs else insert_before i xs)) e ∙ insert_before-length i xs

-- which list is full
pub is_overfilled-capacity : (i : ℕ) (p : ParentNode) → is_overfilled i (Some p) ≡ false → length (insert_number i p.unmerged) ≤ 1048576
is_overfilled-capacity i p e = ltb-false 1048576 (length (insert_number i p.unmerged)) e

pub insert_number-present : (i : ℕ) (xs : List ℕ) → list_any (λ x. x == i) xs ≡ true → insert_number i xs ≡ xs
insert_number-present i xs e = ap (λ (b : Bool). if b then xs else insert_before i xs) e

-- of a full list it is full of others, of a shorter one it isn't
pub is_overfilled-full : (i : ℕ) (p : ParentNode) (xs : List ℕ) (has : Bool) → xs ≡ p.unmerged → length xs ≡ 1048576 → has ≡ list_any (λ x. x == i) xs
    → not has ≡ is_overfilled i (Some p)
is_overfilled-full i p xs true same full e =
    let has : list_any (λ x. x == i) p.unmerged ≡ true = ap (λ v. list_any (λ x. x == i) v) (sym same) ∙ sym e in
    sym (not_less 1048576 _ (omega (arith, ap length (insert_number-present i p.unmerged has), ap length same)))
is_overfilled-full i p xs false same full e =
    let none : list_any (λ x. x == i) p.unmerged ≡ false = ap (λ v. list_any (λ x. x == i) v) (sym same) ∙ sym e in
    sym (is_less 1048576 _ (omega (arith, insert_number-absent i p.unmerged none, ap length same)))

insert_number-by : (i : ℕ) (xs : List ℕ) (b : Bool) → list_any (λ x. x == i) xs ≡ b → length (insert_number i xs) ≤ suc (length xs)
insert_number-by i xs true e = omega (arith, ap length (insert_number-present i xs e))
insert_number-by i xs false e = omega (arith, insert_number-absent i xs e)

pub is_overfilled-short : (i : ℕ) (p : ParentNode) (xs : List ℕ) → xs ≡ p.unmerged → length xs < 1048576 → is_overfilled i (Some p) ≡ false
is_overfilled-short i p xs same low = not_less 1048576 _ (omega (arith, insert_number-by i p.unmerged _ refl, ap length same))

-- a test of two lists of which one is known
or_above : (a b : Bool) → b ≡ true → (a || b) ≡ true
or_above true b e = refl
or_above false b e = e

or_below : (a b : Bool) → b ≡ false → (a || b) ≡ a
or_below true b e = refl
or_below false b e = e

or_both : (a b : Bool) → (a || b) ≡ false → (a ≡ false) × (b ≡ false)
or_both true b e = absurd (cc)
or_both false b e = (refl, e)

-- whether a list above a leaf is full, by the parent and the subtree with the leaf
module _ (xs : List (Option Node)) (first half level : ℕ) (deep : level ≢ 0) (e : half ≡ leaves_at (level - 1)) (i : ℕ) where
  pub overfilled-here : is_overfilled i (parent_part (slice_get xs (2 * (first + half) - 1))) ≡ true → is_overfilled_above first (tree_in xs level first) i ≡ true
  overfilled-here full =
      elim (cases_lt i (first + half)) [
        | inl lt ↦ overfilled-left xs first half level deep e i lt ∙ or_above _ _ full
        | inr ge ↦ overfilled-right xs first half level deep e i ge ∙ or_above _ _ full
      ]

  pub overfilled-near : is_overfilled i (parent_part (slice_get xs (2 * (first + half) - 1))) ≡ false → i < first + half
      → is_overfilled_above first (tree_in xs (level - 1) first) i ≡ is_overfilled_above first (tree_in xs level first) i
  overfilled-near capacity lt = sym (overfilled-left xs first half level deep e i lt ∙ or_below _ _ capacity)

  pub overfilled-far : is_overfilled i (parent_part (slice_get xs (2 * (first + half) - 1))) ≡ false → first + half ≤ i
      → is_overfilled_above (first + half) (tree_in xs (level - 1) (first + half)) i ≡ is_overfilled_above first (tree_in xs level first) i
  overfilled-far capacity ge = sym (overfilled-right xs first half level deep e i ge ∙ or_below _ _ capacity)

  module _ (none : is_overfilled_above first (tree_in xs level first) i ≡ false) where
    pub capacity-here : is_overfilled i (parent_part (slice_get xs (2 * (first + half) - 1))) ≡ false
    capacity-here =
        elim (cases_lt i (first + half)) [
          | inl lt ↦ (or_both _ _ (sym (overfilled-left xs first half level deep e i lt) ∙ none)).1
          | inr ge ↦ (or_both _ _ (sym (overfilled-right xs first half level deep e i ge) ∙ none)).1
        ]

    pub capacity-near : i < first + half → is_overfilled_above first (tree_in xs (level - 1) first) i ≡ false
    capacity-near lt = overfilled-near capacity-here lt ∙ none

    pub capacity-far : first + half ≤ i → is_overfilled_above (first + half) (tree_in xs (level - 1) (first + half)) i ≡ false
    capacity-far ge = overfilled-far capacity-here ge ∙ none

with_new_list-either : (p : ParentNode) (b : Bool) (xs : List ℕ)
    → with_new_list (Some p) (if b then None else Some xs) ≡ Some (record p { unmerged = if b then p.unmerged else xs })
with_new_list-either p true xs = refl
with_new_list-either p false xs = refl

pub with_new_list-made : (i : ℕ) (p : Option ParentNode) → with_new_list p (new_list i p) ≡ with_unmerged i p
with_new_list-made i None = refl
with_new_list-made i (Some p) = with_new_list-either p (list_any (λ x. x == i) p.unmerged) (insert_before i p.unmerged)

-- what the lists hold, at the tree whose parent has been written
module _ (xs : List (Option Node)) (first half level : ℕ) (deep : level ≢ 0) (e : half ≡ leaves_at (level - 1)) (i : ℕ) (v : Option Node)
    (all rest : List (Option (List ℕ))) (b : Option (List ℕ)) (r : Option (Option (List ℕ)))
    (held : all ≡ new_lists first (tree_in xs level first) i) (s : r ≡ Some b) (took : all ≡ rest ++ option_to_list r) where
  pub popped-left : i < first + half
      → (rest ≡ new_lists first (tree_in (slice_set xs (2 * (first + half) - 1) v) (level - 1) first) i) × (b ≡ new_list i (parent_part (slice_get xs (2 * (first + half) - 1))))
  popped-left lt =
      let pos : 0 < half = subst (λ n. 0 < n) (sym e) (leaves_at-positive (level - 1)) in
      let h = popped all rest _ _ b r s took (held ∙ new_lists-left xs first half level deep e i lt) in
      let t : tree_in (slice_set xs (2 * (first + half) - 1) v) (level - 1) first ≡ tree_in xs (level - 1) first
      = tree_in-same _ xs (level - 1) first (λ p u w. slice_get-set_other xs (2 * (first + half) - 1) p v (λ q. omega arith)) in
      (h.0 ∙ ap (λ u. new_lists first u i) (sym t), h.1)

  pub popped-right : first + half ≤ i
      → (rest ≡ new_lists (first + half) (tree_in (slice_set xs (2 * (first + half) - 1) v) (level - 1) (first + half)) i) × (b ≡ new_list i (parent_part (slice_get xs (2 * (first + half) - 1))))
  popped-right ge =
      let pos : 0 < half = subst (λ n. 0 < n) (sym e) (leaves_at-positive (level - 1)) in
      let h = popped all rest _ _ b r s took (held ∙ new_lists-right xs first half level deep e i ge) in
      let t : tree_in (slice_set xs (2 * (first + half) - 1) v) (level - 1) (first + half) ≡ tree_in xs (level - 1) (first + half)
      = tree_in-same _ xs (level - 1) (first + half) (λ p u w. slice_get-set_other xs (2 * (first + half) - 1) p v (λ q. omega arith)) in
      (h.0 ∙ ap (λ u. new_lists (first + half) u i) (sym t), h.1)

-- the parent that was written
pub written-part : (i : ℕ) (p : Option ParentNode) (q : Option ParentNode) (b : Option (List ℕ)) → q ≡ with_new_list p b → b ≡ new_list i p → q ≡ with_unmerged i p
written-part i p q b e f = e ∙ ap (λ v. with_new_list p v) f ∙ with_new_list-made i p
