-- Sets of strict rules: which rules a set has, by the bits of its number.
use Rattle.std.proofs.Common.{◌≡◌, ◌↔◌, ◌⊎◌, ◌<◌, ◌≤◌, ◌+◌, ◌-◌, ◌*◌, ◌%◌, ◌^◌, ℕ, zero, suc, max, min, Bool, true, false, not, ◌&&◌, ◌||◌, ◌==◌, bit_and, bit_or, refl, sym, ap, ◌∙◌, inl, inr, arith, w16}
use Rattle.std.specs.Int.{bit_at, bit_not}
use Rattle.std.proofs.lemmas.Bool.{cases_Bool, and_right, true≢false, false≢true, eqb-true, eqb-false}
use Rattle.std.specs.Coded.{le_prop}
use mathlib.Core.HLevel.{is_prop→PathP}
use Rattle.std.proofs.lemmas.Nat.Bits.{bit_at_and, bit_at_not, bit_at_or, bit_at-lt, bit_at_clear_same, bit_at_clear_other, same_from_bits_below, bit_at-zero, bit_at_ones}
use Rattle.mls_msgs.specs.Rules.{is_strict_rule, rule_bits, has_rule, is_plain, plain_rules, strict_rules}
use Rattle.mls_msgs.specs.declared.rules.Rules.{Rules}

pub strict_range : (n : ℕ) → is_strict_rule n ≡ true → (40 ≤ n) × (n ≤ 52)
strict_range n h = grind arith

pub strict_from : (n : ℕ) → 40 ≤ n → n ≤ 52 → is_strict_rule n ≡ true
strict_from n low high = grind arith

pub strict_not_from : (n : ℕ) → (n < 40) ⊎ (52 < n) → is_strict_rule n ≡ false
strict_not_from n h = grind arith

-- a set has a strict rule if and only if its bit is 1
pub has_rule-inside : (r : Rules) (n : ℕ) → is_strict_rule n ≡ true → has_rule r n ≡ (bit_at (rule_bits r) (n - 40) == 1)
unfolding has_rule
has_rule-inside r n strict = ap (λ b. b && (bit_at (rule_bits r) (n - 40) == 1)) strict

-- a set has no other number
pub has_rule-outside : (r : Rules) (n : ℕ) → is_strict_rule n ≡ false → has_rule r n ≡ false
unfolding has_rule
has_rule-outside r n other = ap (λ b. b && (bit_at (rule_bits r) (n - 40) == 1)) other

or_of : (x y : ℕ) → x < 2 → y < 2 → (max x y == 1) ≡ ((x == 1) || (y == 1))
or_of zero zero _ _ = refl
or_of zero (suc zero) _ _ = refl
or_of (suc zero) zero _ _ = refl
or_of (suc zero) (suc zero) _ _ = refl
or_of zero (suc (suc y)) _ h = absurd (omega arith)
or_of (suc zero) (suc (suc y)) _ h = absurd (omega arith)
or_of (suc (suc x)) y h _ = absurd (omega arith)

-- the set of the bits of two sets is their union
pub has_rule-union : (r s u : Rules) → rule_bits u ≡ bit_or (rule_bits r) (rule_bits s) → (n : ℕ)
    → has_rule u n ≡ (has_rule r n || has_rule s n)
has_rule-union r s u same n = by_case (cases_Bool (is_strict_rule n))
  where
    by_case : (is_strict_rule n ≡ true) ⊎ (is_strict_rule n ≡ false) → has_rule u n ≡ (has_rule r n || has_rule s n)
    by_case (inl strict) =
        has_rule-inside u n strict
        ∙ ap (λ x. bit_at x (n - 40) == 1) same
        ∙ ap (λ x. x == 1) (bit_at_or (rule_bits r) (rule_bits s) (n - 40))
        ∙ or_of _ _ (bit_at-lt (rule_bits r) (n - 40)) (bit_at-lt (rule_bits s) (n - 40))
        ∙ sym (λ i. has_rule-inside r n strict i || has_rule-inside s n strict i)
    by_case (inr other) =
        has_rule-outside u n other ∙ sym (λ i. has_rule-outside r n other i || has_rule-outside s n other i)

and_true : (b : Bool) → (b && true) ≡ b
and_true true = refl
and_true false = refl

without_of : (x : ℕ) (b : Bool) (y : ℕ) → (b ≡ true → y ≡ 0) → (b ≡ false → y ≡ x) → (y == 1) ≡ ((x == 1) && not b)
without_of x true y gone kept = ap (λ z. z == 1) (gone refl) ∙ sym (and_right (x == 1) false refl)
without_of x false y gone kept = ap (λ z. z == 1) (kept refl) ∙ sym (and_true (x == 1))

-- a set with one bit cleared has the other rules of the set
pub has_rule-without : (r u : Rules) (number : ℕ) → 40 ≤ number → number ≤ 52
    → rule_bits u ≡ bit_and (rule_bits r) (bit_not w16 (1 * 2 ^ (number - 40) % 2 ^ 16))
    → (n : ℕ) → has_rule u n ≡ (has_rule r n && not (n == number))
has_rule-without r u number low high same n = by_case (cases_Bool (is_strict_rule n))
  where
    within : number - 40 < 16
    within = omega arith

    by_case : (is_strict_rule n ≡ true) ⊎ (is_strict_rule n ≡ false) → has_rule u n ≡ (has_rule r n && not (n == number))
    by_case (inl strict) =
        let range = strict_range n strict in
        has_rule-inside u n strict
        ∙ without_of (bit_at (rule_bits r) (n - 40)) (n == number) (bit_at (rule_bits u) (n - 40))
        (λ e. ap (λ x. bit_at x (n - 40)) same
        ∙ (let at : n ≡ number = eqb-true n number e in
        ap (λ k. bit_at (bit_and (rule_bits r) (bit_not w16 (1 * 2 ^ (number - 40) % 2 ^ 16))) (k - 40)) at
        ∙ bit_at_clear_same w16 (rule_bits r) (number - 40) within))
        (λ e. ap (λ x. bit_at x (n - 40)) same
        ∙ bit_at_clear_other w16 (rule_bits r) (number - 40) within (n - 40) (let far = range.1 in omega arith)
        (λ at. eqb-false n number e (let near = range.0 in omega arith)))
        ∙ sym (ap (λ b. b && not (n == number)) (has_rule-inside r n strict))
    by_case (inr other) =
        has_rule-outside u n other ∙ sym (ap (λ b. b && not (n == number)) (has_rule-outside r n other))

difference_of : (x y : ℕ) → x < 2 → y < 2 → (min x (1 - y) == 1) ≡ ((x == 1) && not (y == 1))
difference_of zero zero _ _ = refl
difference_of zero (suc zero) _ _ = refl
difference_of (suc zero) zero _ _ = refl
difference_of (suc zero) (suc zero) _ _ = refl
difference_of zero (suc (suc y)) _ h = absurd (omega arith)
difference_of (suc zero) (suc (suc y)) _ h = absurd (omega arith)
difference_of (suc (suc x)) y h _ = absurd (omega arith)

-- the set of the bits of one set that are 0 in another has the rules that the other lacks
pub has_rule-difference : (r s u : Rules) → rule_bits u ≡ bit_and (rule_bits r) (bit_not w16 (rule_bits s)) → (n : ℕ)
    → has_rule u n ≡ (has_rule r n && not (has_rule s n))
has_rule-difference r s u same n = by_case (cases_Bool (is_strict_rule n))
  where
    small : rule_bits s < 2 ^ 16
    small = let fits = s.fits in omega arith

    by_case : (is_strict_rule n ≡ true) ⊎ (is_strict_rule n ≡ false) → has_rule u n ≡ (has_rule r n && not (has_rule s n))
    by_case (inl strict) =
        let range = strict_range n strict in
        has_rule-inside u n strict
        ∙ ap (λ x. bit_at x (n - 40) == 1) same
        ∙ ap (λ x. x == 1) (bit_at_and (rule_bits r) (bit_not w16 (rule_bits s)) (n - 40)
        ∙ ap (min (bit_at (rule_bits r) (n - 40))) (bit_at_not w16 (rule_bits s) (n - 40) small (omega arith)))
        ∙ difference_of _ _ (bit_at-lt (rule_bits r) (n - 40)) (bit_at-lt (rule_bits s) (n - 40))
        ∙ sym (λ i. has_rule-inside r n strict i && not (has_rule-inside s n strict i))
    by_case (inr other) =
        has_rule-outside u n other ∙ sym (λ i. has_rule-outside r n other i && not (has_rule-outside s n other i))

-- a set is determined by its number
pub rule_bits-determine : (r s : Rules) → rule_bits r ≡ rule_bits s → r ≡ s
rule_bits-determine r s e = λ i. record { members = e i; fits = is_prop→PathP (λ j. e j < 2 ^ 13) (λ j. le_prop) r.fits s.fits i }

one_of : (x y : ℕ) → x < 2 → y < 2 → (x == 1) ≡ (y == 1) → x ≡ y
one_of zero zero _ _ e = refl
one_of (suc zero) (suc zero) _ _ e = refl
one_of zero (suc zero) _ _ e = absurd (false≢true e)
one_of (suc zero) zero _ _ e = absurd (true≢false e)
one_of zero (suc (suc y)) _ h e = absurd (omega arith)
one_of (suc zero) (suc (suc y)) _ h e = absurd (omega arith)
one_of (suc (suc x)) y h _ e = absurd (omega arith)

-- two sets with the same rules are equal
pub has_rule-determines : (r s : Rules) → ((n : ℕ) → has_rule r n ≡ has_rule s n) → r ≡ s
has_rule-determines r s same =
    rule_bits-determine r s (same_from_bits_below 13 (rule_bits r) (rule_bits s) r.fits s.fits (λ i low.
    let strict = strict_from (i + 40) (omega arith) (omega arith) in
    let at : i + 40 - 40 ≡ i = omega arith in
    one_of _ _ (bit_at-lt (rule_bits r) i) (bit_at-lt (rule_bits s) i)
    (ap (λ k. bit_at (rule_bits r) k == 1) (sym at)
    ∙ sym (has_rule-inside r (i + 40) strict) ∙ same (i + 40) ∙ has_rule-inside s (i + 40) strict
    ∙ ap (λ k. bit_at (rule_bits s) k == 1) at)))

-- the empty set has no rule
pub has_rule-plain : (n : ℕ) → has_rule plain_rules n ≡ false
has_rule-plain n = by_case (cases_Bool (is_strict_rule n))
  where
    by_case : (is_strict_rule n ≡ true) ⊎ (is_strict_rule n ≡ false) → has_rule plain_rules n ≡ false
    by_case (inl strict) = has_rule-inside plain_rules n strict ∙ ap (λ x. x == 1) (bit_at-zero (n - 40))
    by_case (inr other) = has_rule-outside plain_rules n other

-- the strict set has each strict rule
pub has_rule-strict : (n : ℕ) → has_rule strict_rules n ≡ is_strict_rule n
has_rule-strict n = by_case (cases_Bool (is_strict_rule n))
  where
    by_case : (is_strict_rule n ≡ true) ⊎ (is_strict_rule n ≡ false) → has_rule strict_rules n ≡ is_strict_rule n
    by_case (inl strict) =
        let range = strict_range n strict in
        has_rule-inside strict_rules n strict
        ∙ ap (λ x. x == 1) (bit_at_ones 13 (n - 40) (let high = range.1 in omega arith))
        ∙ sym strict
    by_case (inr other) = has_rule-outside strict_rules n other ∙ sym other

-- only the empty set is plain
pub is_plain-iff : (r : Rules) → (is_plain r ≡ true) ↔ (r ≡ plain_rules)
is_plain-iff r = (λ e. rule_bits-determine r plain_rules (eqb-true (rule_bits r) 0 e), λ e. ap is_plain e)
