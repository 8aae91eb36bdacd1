-- Lists of numbers that do not fall, and the first number of a list that passes a test.
use Rattle.std.proofs.Common.{◌≡◌, ◌≢◌, ℕ, ◌+◌, ◌-◌, ◌<◌, ◌≤◌, List, length, get_or, Some, None, sym, subst, ap, ◌∙◌, inl, inr, arith}
use Rattle.std.specs.Prelude.{Bool, true, false, ◌==◌, cond, insert, nat_le, nat_lt, position, remove}
use Rattle.std.specs.Bool.{OnTrue}
use Rattle.std.specs.List.{AllWithin, IsAllAdjacentAnswer, position_or_len}
use Rattle.std.specs.Ordering.{is_le, is_some_and, nat_cmp}
use Rattle.std.specs.List.Sorted.{IsNonDecreasing, IsPartitionPoint}
use Rattle.std.proofs.lemmas.Bool.{cases_lt, OnTrue_from}
use Rattle.std.proofs.lemmas.Bool.Decides.{nat_tests}
use Rattle.std.proofs.lemmas.List.{get_or_default}
use Rattle.std.proofs.lemmas.List.Edits.{length-remove, get_or-remove_below, get_or-remove_above}
use Rattle.std.proofs.lemmas.List.Sorted.{IsNonDecreasingBy-insert, non_decreasing_from_is_sorted}
use Rattle.std.proofs.lemmas.List.Sums.{position_or_len_is, fails_before_first, passes_at_first}

-- ---- tests of numbers

misses : (a b : ℕ) → b < a → nat_le a b ≡ false
misses a b l = grind (arith, nat_tests)

reaches : (a b : ℕ) → a ≤ b → nat_le a b ≡ true
reaches a b l = grind (arith, nat_tests)

not_less : (a b : ℕ) → b ≤ a → nat_lt a b ≡ false
not_less a b l = grind (arith, nat_tests)

is_less : (a b : ℕ) → a < b → nat_lt a b ≡ true
is_less a b l = grind (arith, nat_tests)

not_same : (a b : ℕ) → a ≢ b → (a == b) ≡ false
not_same a b l = grind (arith, nat_tests)

is_same : (a b : ℕ) → a ≡ b → (a == b) ≡ true
is_same a b l = grind (arith, nat_tests)

missed : (a b : ℕ) → nat_le a b ≡ false → b < a
missed a b e = grind (arith, nat_tests)

reached : (a b : ℕ) → nat_le a b ≡ true → a ≤ b
reached a b e = grind (arith, nat_tests)

-- ---- what `is_sorted` returns

pub OnTrue-is_sorted : (xs ys : List ℕ) (r : Bool) → ys ≡ xs → IsAllAdjacentAnswer (λ x y b. is_some_and is_le (Some (nat_cmp x y)) ≡ b) xs r → OnTrue r (IsNonDecreasing ys)
OnTrue-is_sorted xs ys true e h = subst IsNonDecreasing (sym e) (non_decreasing_from_is_sorted xs true h)
OnTrue-is_sorted xs ys false e h = tt

-- ---- edits

-- a number that is not less than the one before it, nor greater than the one after it, is inserted
pub IsNonDecreasing-insert : (xs : List ℕ) (i y : ℕ) → i ≤ length xs → (0 < i → get_or xs (i - 1) 0 ≤ y) → (i < length xs → y ≤ get_or xs i 0)
    → IsNonDecreasing xs → IsNonDecreasing (insert xs i y)
IsNonDecreasing-insert xs i y within low high up =
    IsNonDecreasingBy-insert (λ x. x) xs i y up within
    (λ k d l. omega (arith, low (omega arith), up k (i - 1) d (omega arith) (omega arith), get_or_default xs (i - 1) d 0 (omega arith)))
    (λ k d l m. omega (arith, high (omega arith), up i k d l m, get_or_default xs i d 0 (omega arith)))

pub IsNonDecreasing-remove : (xs : List ℕ) (i : ℕ) → i < length xs → IsNonDecreasing xs → IsNonDecreasing (remove xs i)
IsNonDecreasing-remove xs i within up a b d le lt =
    let long = length-remove xs i within in
    elim (cases_lt b i) [
      | inl bl ↦ omega (arith, get_or-remove_below xs i d a (omega arith) within, get_or-remove_below xs i d b bl within, up a b d le (omega arith))
      | inr bg ↦
          elim (cases_lt a i) [
            | inl al ↦ omega (arith, get_or-remove_below xs i d a al within, get_or-remove_above xs i d b bg within, up a (b + 1) d (omega arith) (omega arith))
            | inr ag ↦ omega (arith, get_or-remove_above xs i d a ag within, get_or-remove_above xs i d b bg within, up (a + 1) (b + 1) d (omega arith) (omega arith))
          ]
    ]

pub OnTrue-inserted : (xs : List ℕ) (i y : ℕ) → i < length xs → (0 < i → get_or xs (i - 1) 0 ≤ y)
    → OnTrue (nat_le y (get_or xs i 0)) (IsNonDecreasing xs → IsNonDecreasing (insert xs i y))
OnTrue-inserted xs i y within low =
    OnTrue_from (nat_le y (get_or xs i 0)) _ (λ e. IsNonDecreasing-insert xs i y (omega arith) low (λ l. reached _ _ e))

pub OnTrue-removed : (xs ys : List ℕ) (i : ℕ) (b : Bool) → ys ≡ remove xs i → i < length xs → OnTrue b (IsNonDecreasing xs) → OnTrue b (IsNonDecreasing ys)
OnTrue-removed xs ys i true e within up = subst IsNonDecreasing (sym e) (IsNonDecreasing-remove xs i within up)
OnTrue-removed xs ys i false e within up = tt

-- ---- the first number that is not less

pub not_less-first : (xs : List ℕ) (leaf i : ℕ) → i ≤ length xs → AllWithin (λ x. x < leaf) xs 0 i → (i < length xs → leaf ≤ get_or xs i 0)
    → i ≡ position_or_len (λ x. nat_le leaf x) xs
not_less-first xs leaf i within below at =
    sym (position_or_len_is (λ x. nat_le leaf x) xs i 0 within (λ k l. misses leaf _ (below k 0 (omega arith) l)) (λ l. reaches leaf _ (at l)))

-- ---- the first number that is equal

module _ (xs : List ℕ) (leaf : ℕ) where
  abbrev test : ℕ → Bool
  test x = x == leaf

  pub equal-first : (i : ℕ) → i < length xs → AllWithin (λ x. x ≢ leaf) xs 0 i → get_or xs i 0 ≡ leaf → Some i ≡ position (λ x. x == leaf) xs
  equal-first i within before at =
      let e = position_or_len_is test xs i 0 (omega arith) (λ k l. not_same _ _ (before k 0 (omega arith) l)) (λ l. is_same _ _ at) in
      sym (ap (λ (n : ℕ). cond (nat_lt n (length xs)) (Some n) None) e ∙ ap (λ (b : Bool). cond b (Some i) None) (is_less i (length xs) within))

  pub equal-none : AllWithin (λ x. x ≢ leaf) xs 0 (length xs) → None ≡ position (λ x. x == leaf) xs
  equal-none none =
      let e = position_or_len_is test xs (length xs) 0 (omega arith) (λ k l. not_same _ _ (none k 0 (omega arith) l)) (λ l. absurd (omega (arith, l))) in
      sym (ap (λ (n : ℕ). cond (nat_lt n (length xs)) (Some n) None) e ∙ ap (λ (b : Bool). cond b (Some (length xs)) None) (not_less (length xs) (length xs) (omega arith)))

  -- the first number that is not less is the first that is equal, if any is
  module _ (i : ℕ) (at : i ≡ position_or_len (λ x. nat_le leaf x) xs) where
    less_before : AllWithin (λ x. x < leaf) xs 0 i
    less_before k d from l = missed leaf _ (fails_before_first (λ x. nat_le leaf x) xs k d (omega (arith, at)))

    pub sorted-first : i < length xs → get_or xs i 0 ≡ leaf → Some i ≡ position (λ x. x == leaf) xs
    sorted-first within same = equal-first i within (λ k d from l e. omega (arith, less_before k d from l, e)) same

    pub sorted-none : IsNonDecreasing xs → (i < length xs → get_or xs i 0 ≢ leaf) → None ≡ position (λ x. x == leaf) xs
    sorted-none up other = equal-none (λ k d from l e.
        elim (cases_lt k i) [
          | inl kl ↦ omega (arith, less_before k d from kl, e)
          | inr kg ↦
              let within : i < length xs = omega arith in
              let here : leaf ≤ get_or xs i 0 = subst (λ n. leaf ≤ get_or xs n 0) (sym at) (reached leaf _ (passes_at_first (λ x. nat_le leaf x) xs 0 (omega (arith, at)))) in
              other within (omega (arith, here, up i k d kg l, e, get_or_default xs i d 0 within))
        ])

-- where the numbers that are less end
pub parted-first : (xs : List ℕ) (leaf i : ℕ) → i ≤ length xs → IsPartitionPoint (λ x. nat_lt x leaf ≡ true) (λ x. nat_lt x leaf ≡ false) xs i
    → i ≡ position_or_len (λ x. nat_le leaf x) xs
parted-first xs leaf i within parts = not_less-first xs leaf i within (λ k d from l. was_less _ _ (parts.0 k d from l)) (λ l. was_not _ _ (parts.1 i 0 (omega arith) l))
  where
    was_less : (a b : ℕ) → nat_lt a b ≡ true → a < b
    was_less a b e = grind (arith, nat_tests)

    was_not : (a b : ℕ) → nat_lt a b ≡ false → b ≤ a
    was_not a b e = grind (arith, nat_tests)
