-- The slots of a tree whose leftmost subtree is taken out, and of one that becomes the leftmost subtree of another.
use Rattle.std.proofs.Common.{◌≡◌, ℕ, zero, suc, ◌+◌, ◌*◌, ◌-◌, ◌<◌, ◌≤◌, List, [], ◌∷◌, ◌++◌, length, take, drop, replicate, Option, Some, None, refl, sym, ap, ◌∙◌, subst, inl, inr, arith}
use Rattle.std.specs.Prelude.{slice_get, option_and_then, IfSome}
use Rattle.std.specs.List.{range_with_len}
use Rattle.std.proofs.lemmas.Bool.{cases_lt, cases_order}
use Rattle.std.proofs.lemmas.List.{take_at, length-append, length-drop}
use Rattle.mls_tree.specs.declared.hash_kind.HashKind.{HashKind}
use Rattle.mls_tree.specs.declared.hash_cache.Slots.{Slots}
use Rattle.mls_tree.specs.Tree.{Tree, height, leaf_count, IsPerfect, Subtree, subtree_at}
use Rattle.mls_tree.specs.TreeInternal.{leaves_at}
use Rattle.mls_tree.specs.TreeHash.{tree_hash}
use Rattle.mls_tree.specs.Paths.{direct_path}
use Rattle.mls_tree.specs.TreeOperations.{rejoined}
use Rattle.mls_tree.specs.HashCache.{emptied, extended, hash_by}
use Rattle.mls_tree.specs.HashCacheInternal.{AreSlots, AreSlotsOf, joined_slots}
use Rattle.mls_tree.specs.CacheModel.{kind_in, slots_in, HasMoreThan, AreFewer}
use Rattle.mls_tree.proofs.Numbers.{leaves_at-positive, leaves_at-le}
use Rattle.mls_tree.proofs.Trees.{leaf_count-perfect}
use Rattle.mls_tree.proofs.Fronts.{leaves-le, leaf_count-rejoined, subtree_at-kept, subtree_at-behind}
use Rattle.mls_tree.proofs.Emptying.{IsAway, IsAway-front, IsAway-back, emptied-filled, emptied-nothing, length-emptied}
use Rattle.mls_tree.proofs.Growing.{slice_get-append_left}
use Rattle.mls_tree.proofs.KeptSlots.{slots-emptied}

-- ---- entries of a list that was put together

module _ {X : Type 0} where
  slice_get-drop : (xs : List X) (n p : ℕ) → slice_get (drop n xs) p ≡ slice_get xs (n + p)
  slice_get-drop xs zero p = let all : p ≡ 0 + p = omega arith in ap (slice_get xs) all
  slice_get-drop [] (suc n) p = refl
  slice_get-drop (x ∷ xs) (suc n) p = let next : suc (n + p) ≡ suc n + p = omega arith in slice_get-drop xs n p ∙ ap (slice_get (x ∷ xs)) next

  slice_get-append_right : (xs ys : List X) (p : ℕ) → slice_get (xs ++ ys) (length xs + p) ≡ slice_get ys p
  slice_get-append_right [] ys p = let all : 0 + p ≡ p = omega arith in ap (slice_get ys) all
  slice_get-append_right (x ∷ xs) ys p =
      let next : suc (length xs) + p ≡ suc (length xs + p) = omega arith in ap (slice_get (x ∷ (xs ++ ys))) next ∙ slice_get-append_right xs ys p

  -- past the first of two lists
  slice_get-behind : (xs ys : List X) (p : ℕ) → length xs ≤ p → slice_get (xs ++ drop (length xs) ys) p ≡ slice_get ys p
  slice_get-behind xs ys p ge =
      let at : length xs + (p - length xs) ≡ p = omega arith in
      ap (slice_get (xs ++ drop (length xs) ys)) (sym at)
      ∙ slice_get-append_right xs (drop (length xs) ys) (p - length xs)
      ∙ slice_get-drop ys (length xs) (p - length xs)
      ∙ ap (slice_get ys) at

-- ---- node indices after the first ones

away-range : (first n p : ℕ) → first ≤ p → IsAway p (range_with_len first n) → first + n ≤ p
away-range first zero p low away = omega arith
away-range first (suc n) p low away =
    elim (cases_order first p) [
      | inl at ↦ absurd (away.0 (sym at))
      | inr (inl lt) ↦ (let h = away-range (first + 1) n p (omega arith) away.1 in omega arith)
      | inr (inr gt) ↦ absurd (omega arith)
    ]

-- ---- the rest of a tree whose leftmost subtree was taken out

pub slots-rest : (kind : Option HashKind) (t f w : Tree) (slots rest : List (Option (List ℕ))) (n : ℕ) → IsPerfect f → IsPerfect w → height f ≤ height w → rejoined f w ≡ t
    → n + 1 ≡ 2 * leaf_count f → rest ≡ emptied slots (range_with_len 0 n ++ direct_path 0 w 0) → AreSlotsOf kind t slots → AreSlotsOf kind w rest
slots-rest kind t f w slots rest n a b low back count e =
    let ps = range_with_len 0 n in
    let path = direct_path 0 w 0 in
    slots-emptied kind t w slots rest (ps ++ path) e (sym (leaf_count-rejoined f w a b low) ∙ ap leaf_count back)
    (λ p away.
    let past = away-range 0 n p (omega arith) (IsAway-front p ps path away) in
    sym (subtree_at-behind f w p a b (omega arith) (IsAway-back p ps path away)) ∙ ap (λ v. subtree_at 0 v p) back)

-- ---- a tree that becomes the leftmost subtree of another one

length-joined_slots : (xs : List (Option (List ℕ))) (w : Tree) (whole : List (Option (List ℕ))) → length (joined_slots xs w whole) ≡ length xs + (length whole - length xs)
length-joined_slots xs w whole =
    let rest = emptied whole (direct_path 0 w 0) in
    length-append xs (drop (length xs) rest) ∙ ap (λ n. length xs + n) (length-drop (length xs) rest ∙ ap (λ n. n - length xs) (length-emptied whole (direct_path 0 w 0)))

AreSlots-joined_slots : (H : List ℕ → List ℕ) (t w : Tree) (slots rest new : List (Option (List ℕ))) → IsPerfect t → IsPerfect w → height t ≤ height w
    → new ≡ joined_slots slots w rest → AreSlots H t slots → AreSlots H w rest → AreSlots H (rejoined t w) new
AreSlots-joined_slots H t w slots rest new a b low e ok right = record {
  count = omega (arith, ap length e, length-joined_slots slots w rest, ok.count, right.count, leaves-le t w a b low, leaf_count-rejoined t w a b low);
  each = λ p h at.
      let others = emptied rest (direct_path 0 w 0) in
      let here : slice_get (slots ++ drop (length slots) others) p ≡ Some (Some h) = ap (λ cs. slice_get cs p) (sym e) ∙ at in
      elim (cases_lt p (length slots)) [
        | inl lt ↦
            ap (option_and_then (λ (s : Subtree). tree_hash H s.first s.tree)) (subtree_at-kept t w p (omega (arith, ok.count)))
            ∙ ok.each p h (sym (slice_get-append_left slots (drop (length slots) others) p lt) ∙ here)
        | inr ge ↦
            (let kept = emptied-filled rest (direct_path 0 w 0) p h (sym (slice_get-behind slots others p ge) ∙ here) in
            ap (option_and_then (λ (s : Subtree). tree_hash H s.first s.tree)) (subtree_at-behind t w p a b (omega (arith, ok.count)) kept.away)
            ∙ right.each p h kept.former)
      ];
}

slots-joined_slots : (kind : Option HashKind) (t w : Tree) (slots rest new : List (Option (List ℕ))) → IsPerfect t → IsPerfect w → height t ≤ height w
    → new ≡ joined_slots slots w rest → AreSlotsOf kind t slots → AreSlotsOf kind w rest → AreSlotsOf kind (rejoined t w) new
slots-joined_slots None t w slots rest new a b low e ok right = e ∙ (λ i. joined_slots (ok i) w (right i)) ∙ emptied-nothing (direct_path 0 w 0)
slots-joined_slots (Some kind) t w slots rest new a b low e ok right = AreSlots-joined_slots (hash_by kind) t w slots rest new a b low e ok right

pub slots-rejoined : (old held whole new : Option Slots) (t u w : Tree) (level : ℕ) → IsPerfect t → IsPerfect w → height t < level → height w ≡ level → u ≡ rejoined t w → held ≡ old
    → IfSome new
    (λ c. (kind_in held ≡ Some c.kind) × (kind_in whole ≡ Some c.kind)
    × ((v : Tree) → IsPerfect v → height v ≡ level → c.hashes.items ≡ joined_slots (slots_in held) v (slots_in whole)))
    → AreSlotsOf (kind_in old) t (slots_in old) → AreSlotsOf (kind_in whole) w (slots_in whole) → AreSlotsOf (kind_in new) u (slots_in new)
slots-rejoined old held whole None t u w level a b low high at same made ok right = refl
slots-rejoined old held whole (Some c) t u w level a b low high at same made ok right =
    subst (λ v. AreSlotsOf (Some c.kind) v c.hashes.items) (sym at)
    (slots-joined_slots (Some c.kind) t w (slots_in held) (slots_in whole) c.hashes.items a b (omega arith) (made.2 w b high)
    (subst (λ k. AreSlotsOf k t (slots_in held)) made.0 (subst (λ o. AreSlotsOf (kind_in o) t (slots_in o)) (sym same) ok))
    (subst (λ k. AreSlotsOf k w (slots_in whole)) made.1 right))

take-nothing : (n : ℕ) → take n (let none : List (Option (List ℕ)) = [] in none) ≡ []
take-nothing zero = refl
take-nothing (suc n) = refl

-- ---- the slots of a tree that was extended

take-front : (xs ys : List (Option (List ℕ))) (n : ℕ) → n ≡ length xs → take n (xs ++ ys) ≡ xs
take-front xs ys n e = take_at xs ys n (sym e)

pub front-extended : (kind : Option HashKind) (t : Tree) (slots : List (Option (List ℕ))) → AreSlotsOf kind t slots → take (2 * leaf_count t - 1) (extended kind slots) ≡ slots
front-extended None t slots none = ap (take (2 * leaf_count t - 1)) none ∙ take-nothing (2 * leaf_count t - 1) ∙ sym none
front-extended (Some kind) t slots ok = take-front slots (replicate (length slots + 1) None) (2 * leaf_count t - 1) (omega (arith, ok.count))

-- ---- how many slots there are

pub more-than : (slots : Option Slots) (t : Tree) (n level : ℕ) → IsPerfect t → level < height t → n + 1 ≡ 2 * leaves_at level → AreSlotsOf (kind_in slots) t (slots_in slots) → HasMoreThan n slots
more-than None t n level perfect low e ok = tt
more-than (Some c) t n level perfect low e ok =
    let more = leaves_at-le (suc level) (height t) (omega arith) in
    omega (arith, ok.count, leaf_count-perfect t perfect, leaves_at-positive level)

pub fewer-slots : (held whole : Option Slots) (t w : Tree) → IsPerfect t → IsPerfect w → height t < height w → AreSlotsOf (kind_in held) t (slots_in held) → AreSlotsOf (kind_in whole) w (slots_in whole)
    → AreFewer held whole
fewer-slots None whole t w a b low ok right = tt
fewer-slots (Some c) whole t w a b low ok right = more-than whole w (length c.hashes.items) (height t) b low (ok.count ∙ ap (λ k. 2 * k) (leaf_count-perfect t a)) right
