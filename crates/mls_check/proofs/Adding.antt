-- A tree stays sound where a member is added.
use Rattle.std.proofs.Common.{◌≡◌, ◌∙◌, ℕ, ◌+◌, ◌<◌, ◌≤◌, Bool, true, false, IsTrue, List, [], ◌∷◌, Option, Some, None, is_some, refl, sym, ap, subst, inl, inr, arith}
use Rattle.std.specs.Prelude.{◌==◌, MatchOption, if◌then◌else◌}
use Rattle.std.specs.List.{Contains, list_all}
use Rattle.std.proofs.lemmas.Bool.{cases_lt, false≢true, and_from, eqb-true}
use Rattle.std.proofs.lemmas.Bool.Decides.{Decides-eqb}
use Rattle.std.proofs.lemmas.Option.{same_Some}
use Rattle.mls_nodes.specs.declared.leaf.LeafNode.{LeafNode}
use Rattle.mls_nodes.specs.declared.parent.ParentNode.{ParentNode}
use Rattle.mls_tree.specs.Tree.{Tree, leaf, branch, height, leaf_count, leaf_at, Subtree, subtree_at}
use Rattle.mls_tree.specs.BlankLeaves.{first_blank_leaf, IsFirstBlank, AllLeavesNonBlank}
use Rattle.mls_tree.specs.TreeOperations.{blank_tree, extend, add, add_at, extended_if_full, number_or}
use Rattle.mls_tree.proofs.Choices.{below, from, same, other}
use Rattle.mls_tree.proofs.FirstBlanks.{first_blank_leaf-leftmost}
use Rattle.mls_tree.proofs.Kept.{leaf_at-extend}
use Rattle.mls_tree.proofs.Lookups.{leaf_at-past}
use Rattle.mls_tree.proofs.Trees.{leaf_count-positive, subtree_at-stands}
use Rattle.mls_hash.specs.ParentHash.{root_parent}
use Rattle.mls_check.specs.ParentHashValid.{IsNonBlankParent, ParentHashStep}
use Rattle.mls_check.specs.UnmergedLists.{is_blank_or_lists, is_unmerged_in_all, is_consistent, HasConsistentUnmerged}
use Rattle.mls_check.specs.UnmergedListsInternal.{HasSortedEntries}
use Rattle.mls_check.proofs.Elements.{contains-head, contains-tail, contains-found, all-each, and-left, and-right}
use Rattle.mls_check.proofs.Walks.{contained}
use Rattle.mls_check.specs.PreservedValidity.{HasValidUnmergedLists, IsParentHashValidTree, IsStepAt}
use Rattle.mls_check.proofs.Entering.{entered_list, list-has_new, list-has_old, list-has, list-rises}
use Rattle.mls_check.proofs.Everywhere.{Everywhere, everywhere-top, everywhere-at, everywhere-from, everywhere-more}
use Rattle.mls_check.proofs.Carrying.{HasOwnList, any-step, carry}
use Rattle.mls_check.proofs.Reaching.{in_left}
use Rattle.mls_check.proofs.Touching.{is_under, under, inside, touched_parent, touch, touched, leaf_count-touch, IsLeaf-touch, touch-add, IsFreeAt, IsFree, IsFresh, subtree_at-touch, touch-step}
use Rattle.mls_check.proofs.SoundSubtrees.{IsSoundSubtree, HasSoundSubtrees, own_lists, sorted_in, sorted_from, subtrees_from, subtrees_whole}
use Rattle.mls_check.proofs.Remaining.{grow_parents, parts_consistent, parts_lists, sound_grow}

all-from_each : (f : ℕ → Bool) (xs : List ℕ) → ((i : ℕ) → Contains xs i → f i ≡ true) → list_all f xs ≡ true
all-from_each f [] h = refl
all-from_each f (x ∷ xs) h = and_from (f x) (list_all f xs) (h x (contains-head x xs)) (all-from_each f xs (λ i c. h i (contains-tail x xs i c)))

-- ---- a blank leaf is in no list

entered-set : (i first : ℕ) (t : Tree) → is_unmerged_in_all i first t ≡ true → is_some (leaf_at first t i) ≡ true
entered-set i first (leaf y) h =
    let e = eqb-true i first (and-left (i == first) (is_some y) h) in
    ap is_some (same i first y None e) ∙ and-right (i == first) (is_some y) h
entered-set i first (branch l p r) h =
    let g = and-right (is_blank_or_lists p i) _ h in
    elim (cases_lt i (first + leaf_count l)) [
      | inl a ↦
          ap is_some (below i (first + leaf_count l) (leaf_at first l i) (leaf_at (first + leaf_count l) r i) a)
          ∙ entered-set i first l (sym (below i (first + leaf_count l) (is_unmerged_in_all i first l) (is_unmerged_in_all i (first + leaf_count l) r) a) ∙ g)
      | inr b ↦
          ap is_some (from i (first + leaf_count l) (leaf_at first l i) (leaf_at (first + leaf_count l) r i) b)
          ∙ entered-set i (first + leaf_count l) r (sym (from i (first + leaf_count l) (is_unmerged_in_all i first l) (is_unmerged_in_all i (first + leaf_count l) r) b) ∙ g)
    ]

leaf_at-before : (first : ℕ) (t : Tree) (i : ℕ) → i < first → leaf_at first t i ≡ None
leaf_at-before first (leaf y) i l = other i first y None (λ e. omega (arith, l, e))
leaf_at-before first (branch l n r) i lt =
    below i (first + leaf_count l) (leaf_at first l i) (leaf_at (first + leaf_count l) r i) (omega (arith, lt)) ∙ leaf_at-before first l i lt

module _ (j : ℕ) (x : LeafNode) where
  -- the lists are placed everywhere
  abbrev IsConsistentIn : ℕ → Tree → Type 0
  IsConsistentIn first t = IsTrue (is_consistent first t)

  unlisted : (first : ℕ) (l : Tree) (n : Option ParentNode) (r : Tree) → IsConsistentIn first (branch l n r) → leaf_at first (branch l n r) j ≡ None
      → (p : ParentNode) → n ≡ Some p → ¬ Contains p.unmerged j
  unlisted first l n r consistent blank p e c =
      let here : IsConsistentIn first (branch l (Some p) r) = subst (λ (o : Option ParentNode). IsConsistentIn first (branch l o r)) e consistent in
      let set = entered-set j first (branch l None r) (all-each (λ i. is_unmerged_in_all i first (branch l None r)) p.unmerged j here c) in
      false≢true (sym (ap is_some blank) ∙ set)

  pub free_from : (first : ℕ) (t : Tree) → Everywhere IsConsistentIn first t → leaf_at first t j ≡ None → IsFree j x first t
  free_from first (leaf y) consistent blank = λ e. sym (same j first y None (sym e)) ∙ blank
  free_from first (branch l n r) consistent blank = (
    unlisted first l n r consistent.0 blank,
    free_from first l consistent.1 (elim (cases_lt j (first + leaf_count l)) [
      | inl lt ↦ sym (below j (first + leaf_count l) (leaf_at first l j) (leaf_at (first + leaf_count l) r j) lt) ∙ blank
      | inr ge ↦ leaf_at-past first l j ge
    ]),
    free_from (first + leaf_count l) r consistent.2 (elim (cases_lt j (first + leaf_count l)) [
      | inl lt ↦ leaf_at-before (first + leaf_count l) r j lt
      | inr ge ↦ sym (from j (first + leaf_count l) (leaf_at first l j) (leaf_at (first + leaf_count l) r j) ge) ∙ blank
    ]),
  )

  -- ---- entered leaves

  is_blank_or_lists-old : (b : Bool) (n : Option ParentNode) (i : ℕ) → is_blank_or_lists n i ≡ true → is_blank_or_lists (touched_parent j x b n) i ≡ true
  is_blank_or_lists-old b None i h = refl
  is_blank_or_lists-old b (Some p) i h = contained (entered_list j b p.unmerged) i (list-has_old j b p.unmerged i (contains-found p.unmerged i h))

  is_blank_or_lists-new : (n : Option ParentNode) → is_blank_or_lists (touched_parent j x true n) j ≡ true
  is_blank_or_lists-new None = refl
  is_blank_or_lists-new (Some p) = contained (entered_list j true p.unmerged) j (list-has_new j p.unmerged)

  still-set : (b : Bool) (y : Option LeafNode) → is_some y ≡ true → is_some (if b then Some x else y) ≡ true
  still-set true y h = refl
  still-set false y h = h

  entered-old : (i first : ℕ) (t : Tree) → is_unmerged_in_all i first t ≡ true → is_unmerged_in_all i first (touch j x first t) ≡ true
  entered-old i first (leaf y) h =
      and_from (i == first) (is_some (if first == j then Some x else y)) (and-left (i == first) (is_some y) h) (still-set (first == j) y (and-right (i == first) (is_some y) h))
  entered-old i first (branch l n r) h =
      let count = leaf_count-touch j x first l in
      let left = touch j x first l in
      let right = touch j x (first + leaf_count l) r in
      let under = is_under j x first (leaf_count l + leaf_count r) in
      let g = and-right (is_blank_or_lists n i) _ h in
      and_from (is_blank_or_lists (touched_parent j x under n) i) _ (is_blank_or_lists-old under n i (and-left (is_blank_or_lists n i) _ h))
      (elim (cases_lt i (first + leaf_count l)) [
        | inl a ↦
            below i (first + leaf_count left) (is_unmerged_in_all i first left) (is_unmerged_in_all i (first + leaf_count left) right) (omega (arith, a, count))
            ∙ entered-old i first l (sym (below i (first + leaf_count l) (is_unmerged_in_all i first l) (is_unmerged_in_all i (first + leaf_count l) r) a) ∙ g)
        | inr b ↦
            from i (first + leaf_count left) (is_unmerged_in_all i first left) (is_unmerged_in_all i (first + leaf_count left) right) (omega (arith, b, count))
            ∙ ap (λ k. is_unmerged_in_all i (first + k) right) count
            ∙ entered-old i (first + leaf_count l) r (sym (from i (first + leaf_count l) (is_unmerged_in_all i first l) (is_unmerged_in_all i (first + leaf_count l) r) b) ∙ g)
      ])

  entered-new : (first : ℕ) (t : Tree) → first ≤ j → j < first + leaf_count t → is_unmerged_in_all j first (touch j x first t) ≡ true
  entered-new first (leaf y) a b =
      let e : j ≡ first = omega (arith, a, b) in
      and_from (j == first) (is_some (if first == j then Some x else y)) ((Decides-eqb j first).1 e) (ap is_some (same first j (Some x) y (sym e)))
  entered-new first (branch l n r) lo hi =
      let count = leaf_count-touch j x first l in
      let left = touch j x first l in
      let right = touch j x (first + leaf_count l) r in
      let is = under j x first (leaf_count l + leaf_count r) lo hi in
      and_from (is_blank_or_lists (touched_parent j x (is_under j x first (leaf_count l + leaf_count r)) n) j) _
      (ap (λ b. is_blank_or_lists (touched_parent j x b n) j) is ∙ is_blank_or_lists-new n)
      (elim (cases_lt j (first + leaf_count l)) [
        | inl a ↦
            below j (first + leaf_count left) (is_unmerged_in_all j first left) (is_unmerged_in_all j (first + leaf_count left) right) (omega (arith, a, count))
            ∙ entered-new first l lo a
        | inr b ↦
            from j (first + leaf_count left) (is_unmerged_in_all j first left) (is_unmerged_in_all j (first + leaf_count left) right) (omega (arith, b, count))
            ∙ ap (λ k. is_unmerged_in_all j (first + k) right) count
            ∙ entered-new (first + leaf_count l) r b (omega (arith, hi))
      ])

  consistent-touch : (first : ℕ) (t : Tree) → IsConsistentIn first t → IsConsistentIn first (touch j x first t)
  consistent-touch first (leaf y) h = refl
  consistent-touch first (branch l None r) h = refl
  consistent-touch first (branch l (Some p) r) h =
      let b = is_under j x first (leaf_count l + leaf_count r) in
      all-from_each (λ i. is_unmerged_in_all i first (touch j x first (branch l None r))) (entered_list j b p.unmerged)
      (λ i c. elim (list-has j b p.unmerged i c) [
        | inl f ↦
            (let k = inside j x first (leaf_count l + leaf_count r) f.1 in
            subst (λ v. is_unmerged_in_all v first (touch j x first (branch l None r)) ≡ true) f.0 (entered-new first (branch l None r) k.0 k.1))
        | inr o ↦ entered-old i first (branch l None r) (all-each (λ i. is_unmerged_in_all i first (branch l None r)) p.unmerged i h o)
      ])

  sorted-touch : (first : ℕ) (t : Tree) → HasSortedEntries (root_parent t) → HasSortedEntries (root_parent (touch j x first t))
  sorted-touch first (leaf y) h = tt
  sorted-touch first (branch l None r) h = tt
  sorted-touch first (branch l (Some p) r) h = list-rises j (is_under j x first (leaf_count l + leaf_count r)) p.unmerged h

  -- ---- the tree

  module _ (H : List ℕ → List ℕ) (n : ℕ) where
    set-touch : (first : ℕ) (t : Tree) → IsNonBlankParent (touch j x first t) → IsNonBlankParent t
    set-touch first (leaf y) h = h
    set-touch first (branch l None r) h = h
    set-touch first (branch l (Some p) r) h = tt

    sound-top_touch : (first : ℕ) (t : Tree) → IsSoundSubtree H n first t → IsFree j x first t → first + leaf_count t ≤ n → IsSoundSubtree H n first (touch j x first t)
    sound-top_touch first t g free low = record {
      sorted = sorted-touch first t g.sorted;
      consistent = consistent-touch first t g.consistent;
      parent_hash = λ set.
          carry H n n (touched j x) (IsFresh j x H n) (touch-step j x H n) (λ d l. IsLeaf-touch j x d.first d.tree l)
          (record { first = first; tree = t }) (record { free = free; low = low }) (g.parent_hash (set-touch first t set));
    }

    sound_touch : (first : ℕ) (t : Tree) → HasSoundSubtrees H n first t → IsFree j x first t → first + leaf_count t ≤ n → HasSoundSubtrees H n first (touch j x first t)
    sound_touch first (leaf y) g free low = sound-top_touch first (leaf y) g free low
    sound_touch first (branch l node r) g free low = (
      sound-top_touch first (branch l node r) g.0 free low,
      sound_touch first l g.1 free.1 (omega (arith, low)),
      subst (λ k. HasSoundSubtrees H n (first + k) (touch j x (first + leaf_count l) r)) (sym (leaf_count-touch j x first l))
          (sound_touch (first + leaf_count l) r g.2 free.2 (omega (arith, low))),
    )

  pub sound_add_at : (H : List ℕ → List ℕ) (t : Tree) → j < leaf_count t → leaf_at 0 t j ≡ None → HasSoundSubtrees H (leaf_count t) 0 t → IsParentHashValidTree H (add_at t j x)
  sound_add_at H t low blank g =
      subst (λ u. IsParentHashValidTree H u) (sym (touch-add j x 0 t (omega arith) (omega (arith, low))))
      (subtrees_whole H (leaf_count t) (touch j x 0 t) (sym (leaf_count-touch j x 0 t))
      (sound_touch H (leaf_count t) 0 t g (free_from 0 t (everywhere-more (IsSoundSubtree H (leaf_count t)) IsConsistentIn (λ first u k. k.consistent) 0 t g) blank) (omega arith)))

  -- ---- lists and steps alone

  everywhere-touch : (P : ℕ → Tree → Type 0) → ((first : ℕ) (t : Tree) → P first t → P first (touch j x first t)) → (first : ℕ) (t : Tree)
      → Everywhere P first t → Everywhere P first (touch j x first t)
  everywhere-touch P f first (leaf y) h = f first (leaf y) h
  everywhere-touch P f first (branch l n r) h = (
    f first (branch l n r) h.0,
    everywhere-touch P f first l h.1,
    subst (λ k. Everywhere P (first + k) (touch j x (first + leaf_count l) r)) (sym (leaf_count-touch j x first l)) (everywhere-touch P f (first + leaf_count l) r h.2),
  )

  lists_add_at : (t : Tree) → j < leaf_count t → HasValidUnmergedLists t → HasValidUnmergedLists (add_at t j x)
  lists_add_at t low h =
      subst HasValidUnmergedLists (sym (touch-add j x 0 t (omega arith) (omega (arith, low))))
      (record {
        sorted = sorted_from (touch j x 0 t) (everywhere-touch (λ first u. HasSortedEntries (root_parent u)) sorted-touch 0 t (sorted_in t h.sorted));
        consistent = λ p s e.
            everywhere-top IsConsistentIn s.first s.tree
            (everywhere-at IsConsistentIn 0 (touch j x 0 t) p s e (everywhere-touch IsConsistentIn consistent-touch 0 t (everywhere-from IsConsistentIn 0 t h.consistent)));
      })

  steps_add_at : (H : List ℕ → List ℕ) (t : Tree) → j < leaf_count t → leaf_at 0 t j ≡ None → HasConsistentUnmerged t → (d s : Subtree) (low high : ℕ)
      → subtree_at 0 t low ≡ Some d → subtree_at 0 t high ≡ Some s → ParentHashStep H (leaf_count t) d s → IsStepAt H (add_at t j x) low high
  steps_add_at H t inside blank consistent d s low high at_d at_s step =
      subst (λ u. IsStepAt H u low high) (sym (touch-add j x 0 t (omega arith) (omega (arith, inside)))) go
    where
      free : IsFree j x 0 t
      free = free_from 0 t (everywhere-from IsConsistentIn 0 t consistent) blank

      go : IsStepAt H (touch j x 0 t) low high
      go e f at_e at_f =
          let stands = subtree_at-stands 0 t high s at_s in
          let fresh : IsFresh j x H (leaf_count t) s = record { free = everywhere-at (IsFreeAt j x) 0 t high s at_s free; low = omega (arith, stands.to_right) } in
          let k = (touch-step j x H (leaf_count t) d s fresh step).0 in
          let a = same_Some (touched j x d) e (sym (subtree_at-touch j x 0 t low d at_d) ∙ at_e) in
          let b = same_Some (touched j x s) f (sym (subtree_at-touch j x 0 t high s at_s) ∙ at_f) in
          let c = sym (leaf_count-touch j x 0 t) in
          subst (λ v. v) (λ i. ParentHashStep H (c i) (a i) (b i)) k

module _ (H : List ℕ → List ℕ) (t : Tree) (x : LeafNode) (h : IsParentHashValidTree H t) where
  by_answer : (o : Option ℕ) → MatchOption o (AllLeavesNonBlank t) (λ j. IsFirstBlank t j) → IsParentHashValidTree H (add_at (extended_if_full o t) (number_or (leaf_count t) o) x)
  by_answer None all =
      let pos = leaf_count-positive (blank_tree (height t)) in
      sound_add_at (leaf_count t) x H (extend t) (omega (arith, pos)) (leaf_at-extend t (leaf_count t) ∙ leaf_at-past 0 t (leaf_count t) (omega arith))
      (subtrees_from H (extend t) (sound_grow H t h))
  by_answer (Some j) first = sound_add_at j x H t first.inside first.blank (subtrees_from H t h)

  pub sound_add : IsParentHashValidTree H (add t x)
  sound_add = by_answer (first_blank_leaf 0 t) (first_blank_leaf-leftmost t)

module _ (t : Tree) (x : LeafNode) where
  lists_by : HasValidUnmergedLists t → (o : Option ℕ) → MatchOption o (AllLeavesNonBlank t) (λ j. IsFirstBlank t j) → HasValidUnmergedLists (add_at (extended_if_full o t) (number_or (leaf_count t) o) x)
  lists_by h None all =
      lists_add_at (leaf_count t) x (extend t) (omega (arith, leaf_count-positive (blank_tree (height t)))) (parts_lists (extend t) t (grow_parents t) h)
  lists_by h (Some j) first = lists_add_at j x t first.inside h

  pub lists_add : HasValidUnmergedLists t → HasValidUnmergedLists (add t x)
  lists_add h = lists_by h (first_blank_leaf 0 t) (first_blank_leaf-leftmost t)

  module _ (H : List ℕ → List ℕ) (d s : Subtree) (low high : ℕ) (consistent : HasConsistentUnmerged t) (at_d : subtree_at 0 t low ≡ Some d) (at_s : subtree_at 0 t high ≡ Some s)
      (step : ParentHashStep H (leaf_count t) d s) where
    grown_step : ParentHashStep H (leaf_count (extend t)) d s
    grown_step =
        let stands = subtree_at-stands 0 t high s at_s in
        (any-step (leaf_count t) (leaf_count (extend t)) H d s (record {
          own = everywhere-at HasOwnList 0 t high s at_s (own_lists t consistent);
          low = omega (arith, stands.to_right);
          lower = omega (arith, stands.to_right);
        }) step).0

    steps_by : (o : Option ℕ) → MatchOption o (AllLeavesNonBlank t) (λ j. IsFirstBlank t j) → IsStepAt H (add_at (extended_if_full o t) (number_or (leaf_count t) o) x) low high
    steps_by None all =
        steps_add_at (leaf_count t) x H (extend t) (omega (arith, leaf_count-positive (blank_tree (height t))))
        (leaf_at-extend t (leaf_count t) ∙ leaf_at-past 0 t (leaf_count t) (omega arith)) (parts_consistent (extend t) t (grow_parents t) consistent) d s low high
        (in_left 0 t None (blank_tree (height t)) low d at_d) (in_left 0 t None (blank_tree (height t)) high s at_s) grown_step
    steps_by (Some j) first = steps_add_at j x H t first.inside first.blank consistent d s low high at_d at_s step

    steps_add_in : IsStepAt H (add t x) low high
    steps_add_in = steps_by (first_blank_leaf 0 t) (first_blank_leaf-leftmost t)

pub steps_add : (H : List ℕ → List ℕ) (t : Tree) (x : LeafNode) (descendant above : Subtree) (low high : ℕ) → HasConsistentUnmerged t
    → subtree_at 0 t low ≡ Some descendant → subtree_at 0 t high ≡ Some above → ParentHashStep H (leaf_count t) descendant above
    → IsStepAt H (add t x) low high
steps_add H t x d s low high consistent at_d at_s step = steps_add_in t x H d s low high consistent at_d at_s step
