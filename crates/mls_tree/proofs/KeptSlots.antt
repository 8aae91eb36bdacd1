-- The slots of a tree are those of the changed tree, except the emptied ones.
use Rattle.std.proofs.Common.{◌≡◌, ℕ, zero, suc, ◌+◌, ◌*◌, ◌-◌, ◌∷◌, ◌<◌, ◌≤◌, List, [], ◌++◌, length, replicate, take, map, Result, Ok, Err, Option, Some, None, refl, sym, ap, subst, ◌∙◌, inl, inr, arith}
use Rattle.std.specs.Prelude.{slice_get, option_and_then, OnOk, OnErr}
use Rattle.std.proofs.lemmas.Bool.{cases_lt}
use Rattle.std.proofs.lemmas.List.{length-take-le, length-append, length-map}
use Rattle.std.proofs.Math.ListN.{length-replicate}
use Rattle.mls_nodes.specs.declared.leaf.LeafNode.{LeafNode}
use Rattle.mls_nodes.specs.declared.parent.ParentNode.{ParentNode}
use Rattle.mls_tree.specs.declared.hash_kind.HashKind.{HashKind}
use Rattle.mls_tree.specs.declared.hash_cache.Slots.{Slots}
use Rattle.mls_nodes.specs.declared.node.Node.{Node}
use Rattle.mls_nodes.specs.NodeValues.{entry_value}
use Rattle.mls_tree.specs.Tree.{Tree, branch, height, leaf_count, listing, IsPerfect, Subtree, subtree_at}
use Rattle.mls_tree.specs.TreeInternal.{leaves_at}
use Rattle.mls_tree.specs.TreeHash.{tree_hash}
use Rattle.mls_tree.specs.TreeOperations.{put_leaf, put_parent, change_above, extend, front_subtree, blank_tree}
use Rattle.mls_tree.specs.Paths.{direct_path}
use Rattle.mls_tree.specs.HashCache.{emptied, parents_from, extended, hash_by}
use Rattle.mls_tree.specs.HashCacheInternal.{AreSlots, AreSlotsOf}
use Rattle.mls_tree.specs.CacheModel.{kind_in, slots_in, IsOfHeight}
use Rattle.mls_tree.proofs.Trees.{leaf_count-perfect, leaf_count-positive, length-listing, subtree_at-in_left}
use Rattle.mls_tree.proofs.Kept.{leaf_count-put_leaf, leaf_count-put_parent, leaf_count-change_above, height-blank_tree, IsPerfect-blank_tree}
use Rattle.mls_tree.proofs.Fronts.{leaf_count-front, subtree_at-front}
use Rattle.mls_tree.proofs.Growing.{slice_get-take, slice_get-take_past, slice_get-append_left, slice_get-fill}
use Rattle.mls_tree.proofs.Emptying.{IsAway, AreSlots-emptied, emptied-nothing, beside-put_leaf, beside-put_parent, beside-change_above}

-- there are as many slots as the tree has node indices
pub of_height : (slots : Option Slots) (t : Tree) (h : ℕ) → IsPerfect t → h ≡ height t → AreSlotsOf (kind_in slots) t (slots_in slots) → IsOfHeight h slots
of_height None t h perfect e ok = tt
of_height (Some c) t h perfect e ok = ok.count ∙ ap (λ n. 2 * n) (leaf_count-perfect t perfect ∙ ap leaves_at (sym e))

-- slots of the same kind
pub of_kind : (old new : Option Slots) (u : Tree) → kind_in new ≡ kind_in old → AreSlotsOf (kind_in old) u (slots_in new) → AreSlotsOf (kind_in new) u (slots_in new)
of_kind old new u same ok = subst (λ k. AreSlotsOf k u (slots_in new)) (sym same) ok

-- as many nodes as the tree has node indices
pub listed : (xs : List (Option Node)) (u : Tree) → map entry_value xs ≡ listing u → length xs ≡ 2 * leaf_count u - 1
listed xs u e = omega (arith, ap length e, length-map xs entry_value, length-listing u)

-- no more slots than node indices
pub slots-short : (kind : Option HashKind) (t : Tree) (slots : List (Option (List ℕ))) → AreSlotsOf kind t slots → length slots < 2 * leaf_count t
slots-short None t slots ok = omega (arith, ap length ok, leaf_count-positive t)
slots-short (Some kind) t slots ok = omega (arith, ok.count)

-- ---- slots are emptied

module _ (kind : Option HashKind) (t u : Tree) (slots new : List (Option (List ℕ))) where
  pub slots-emptied : (ps : List ℕ) → new ≡ emptied slots ps → leaf_count u ≡ leaf_count t → ((p : ℕ) → IsAway p ps → subtree_at 0 u p ≡ subtree_at 0 t p)
      → AreSlotsOf kind t slots → AreSlotsOf kind u new
  slots-emptied ps e c same ok = by_kind kind ok
    where
      by_kind : (k : Option HashKind) → AreSlotsOf k t slots → AreSlotsOf k u new
      by_kind None ok = e ∙ ap (λ cs. emptied cs ps) ok ∙ emptied-nothing ps
      by_kind (Some k) ok = AreSlots-emptied (hash_by k) t u slots new ps e c same ok

  -- where a leaf is replaced
  pub slots-put_leaf : (i : ℕ) (x : Option LeafNode) → u ≡ put_leaf 0 t i x → i < leaf_count t → new ≡ emptied slots (2 * i ∷ direct_path 0 t i)
      → AreSlotsOf kind t slots → AreSlotsOf kind u new
  slots-put_leaf i x at low e =
      slots-emptied (2 * i ∷ direct_path 0 t i) e (ap leaf_count at ∙ leaf_count-put_leaf 0 t i x)
      (λ p w. ap (λ v. subtree_at 0 v p) at ∙ beside-put_leaf 0 t i x p (omega arith) (omega arith) w.0 w.1)

  -- where the parents above a leaf are changed
  pub slots-change_above : (f : Option ParentNode → Option ParentNode) (i : ℕ) → u ≡ change_above f 0 t i → new ≡ emptied slots (direct_path 0 t i)
      → AreSlotsOf kind t slots → AreSlotsOf kind u new
  slots-change_above f i at e =
      slots-emptied (direct_path 0 t i) e (ap leaf_count at ∙ leaf_count-change_above f 0 t i)
      (λ p w. ap (λ v. subtree_at 0 v p) at ∙ beside-change_above f 0 t i p w)

  -- where a parent is replaced
  pub slots-put_parent : (q : ℕ) (x : Option ParentNode) → u ≡ put_parent 0 t q x → new ≡ emptied slots (parents_from 0 t q)
      → AreSlotsOf kind t slots → AreSlotsOf kind u new
  slots-put_parent q x at e =
      slots-emptied (parents_from 0 t q) e (ap leaf_count at ∙ leaf_count-put_parent 0 t q x)
      (λ p w. ap (λ v. subtree_at 0 v p) at ∙ beside-put_parent 0 t q x p w)

  -- where no node is
  pub slots-same : (ps : List ℕ) → u ≡ t → new ≡ emptied slots ps → AreSlotsOf kind t slots → AreSlotsOf kind u new
  slots-same ps at e = slots-emptied ps e (ap leaf_count at) (λ p w. ap (λ v. subtree_at 0 v p) at)

  -- where a parent is replaced, if the call isn't refused
  pub slots-if_put_parent : {A E : Type 0} (answer : Result A E) (q : ℕ) (x : Option ParentNode) → OnOk answer (u ≡ put_parent 0 t q x) → OnErr answer (u ≡ t) → new ≡ emptied slots (parents_from 0 t q)
      → AreSlotsOf kind t slots → AreSlotsOf kind u new
  slots-if_put_parent (Ok a) q x put same e = slots-put_parent q x put e
  slots-if_put_parent (Err a) q x put same e = slots-same (parents_from 0 t q) same e

-- ---- the tree becomes the left subtree of another

filled-in_front : (slots : List (Option (List ℕ))) (n p : ℕ) (h : List ℕ) → slice_get (slots ++ replicate n None) p ≡ Some (Some h) → p < length slots
filled-in_front slots n p h e =
    elim (cases_lt p (length slots)) [
      | inl lt ↦ lt
      | inr ge ↦
          absurd
          (elim (slice_get-fill slots n p (let slot : Option (List ℕ) = None in slot) ge) [ inl none ↦ (let bad = sym none ∙ e in cc) | inr blank ↦ (let bad = sym blank ∙ e in cc) ])
    ]

AreSlots-extended : (H : List ℕ → List ℕ) (t r : Tree) (n : Option ParentNode) (slots : List (Option (List ℕ))) → leaf_count r ≡ leaf_count t
    → AreSlots H t slots → AreSlots H (branch t n r) (slots ++ replicate (length slots + 1) None)
AreSlots-extended H t r n slots c ok = record {
  count = omega (arith, ok.count, c, length-append slots (replicate (length slots + 1) (let slot : Option (List ℕ) = None in slot)), length-replicate (length slots + 1) (let slot : Option (List ℕ) = None in slot));
  each = λ p h at.
      let low = filled-in_front slots (length slots + 1) p h at in
      ap (option_and_then (λ (s : Subtree). tree_hash H s.first s.tree)) (subtree_at-in_left 0 t n r p (omega (arith, ok.count)))
      ∙ ok.each p h (sym (slice_get-append_left slots (replicate (length slots + 1) None) p low) ∙ at);
}

pub slots-extended : (kind : Option HashKind) (t u r : Tree) (n : Option ParentNode) (slots new : List (Option (List ℕ))) → u ≡ branch t n r → leaf_count r ≡ leaf_count t
    → new ≡ extended kind slots → AreSlotsOf kind t slots → AreSlotsOf kind u new
slots-extended None t u r n slots new at c e ok = e ∙ ok
slots-extended (Some kind) t u r n slots new at c e ok =
    subst (λ v. AreSlots (hash_by kind) v new) (sym at) (subst (AreSlots (hash_by kind) (branch t n r)) (sym e) (AreSlots-extended (hash_by kind) t r n slots c ok))

leaf_count-grown : (t r : Tree) → IsPerfect t → IsPerfect r → height r ≡ height t → leaf_count r ≡ leaf_count t
leaf_count-grown t r a b e = leaf_count-perfect r b ∙ ap leaves_at e ∙ sym (leaf_count-perfect t a)

-- the tree grows
pub slots-extend : (kind : Option HashKind) (t u : Tree) (slots new : List (Option (List ℕ))) → IsPerfect t → u ≡ extend t → new ≡ extended kind slots
    → AreSlotsOf kind t slots → AreSlotsOf kind u new
slots-extend kind t u slots new perfect at =
    slots-extended kind t u (blank_tree (height t)) None slots new at
    (leaf_count-grown t (blank_tree (height t)) perfect (IsPerfect-blank_tree (height t)) (height-blank_tree (height t)))

-- ---- a left part of the tree is left

AreSlots-taken : (H : List ℕ → List ℕ) (t u : Tree) (slots : List (Option (List ℕ))) → leaf_count u ≤ leaf_count t
    → ((p : ℕ) → p + 1 < 2 * leaf_count u → subtree_at 0 u p ≡ subtree_at 0 t p) → AreSlots H t slots → AreSlots H u (take (2 * leaf_count u - 1) slots)
AreSlots-taken H t u slots low same ok =
    let n = 2 * leaf_count u - 1 in
    let positive = leaf_count-positive u in
    record {
      count = omega (arith, positive, length-take-le n slots (omega (arith, ok.count)));
      each = λ p h at.
          elim (cases_lt p n) [
            | inl lt ↦
                ap (option_and_then (λ (s : Subtree). tree_hash H s.first s.tree)) (same p (omega arith)) ∙ ok.each p h (sym (slice_get-take slots n p lt) ∙ at)
            | inr ge ↦ absurd (let bad = sym (slice_get-take_past slots n p ge) ∙ at in cc)
          ];
    }

module _ (kind : Option HashKind) (t u : Tree) (slots new : List (Option (List ℕ))) where
  slots-taken : leaf_count u ≤ leaf_count t → ((p : ℕ) → p + 1 < 2 * leaf_count u → subtree_at 0 u p ≡ subtree_at 0 t p) → new ≡ take (2 * leaf_count u - 1) slots
      → AreSlotsOf kind t slots → AreSlotsOf kind u new
  slots-taken low same e ok = by_kind kind ok
    where
      nothing : (n : ℕ) → take n (let none : List (Option (List ℕ)) = [] in none) ≡ []
      nothing zero = refl
      nothing (suc n) = refl

      by_kind : (k : Option HashKind) → AreSlotsOf k t slots → AreSlotsOf k u new
      by_kind None ok = e ∙ ap (take (2 * leaf_count u - 1)) ok ∙ nothing (2 * leaf_count u - 1)
      by_kind (Some k) ok = subst (AreSlots (hash_by k) u) (sym e) (AreSlots-taken (hash_by k) t u slots low same ok)

-- the leftmost subtree of height h is left
pub slots-front : (kind : Option HashKind) (h : ℕ) (t u : Tree) (slots new : List (Option (List ℕ))) → u ≡ front_subtree h t → new ≡ take (2 * leaf_count u - 1) slots
    → AreSlotsOf kind t slots → AreSlotsOf kind u new
slots-front kind h t u slots new at =
    slots-taken kind t u slots new (let a = ap leaf_count at in let b = leaf_count-front h t in omega arith)
    (λ p lt. ap (λ v. subtree_at 0 v p) at ∙ subtree_at-front h t p (let a = ap leaf_count at in omega arith))
