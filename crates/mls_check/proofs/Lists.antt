-- Searches of sorted lists of numbers.
use Rattle.std.proofs.Common.{◌≡◌, ℕ, ◌<◌, ◌≤◌, true, false, List, length, get_or, Result, Ok, Err, refl, sym, ap, arith, inl, inr}
use Rattle.std.specs.Prelude.{is_ok, ◌==◌}
use Rattle.std.specs.List.{list_any}
use Rattle.std.specs.List.Sorted.{IsStrictlyIncreasing, IsBinarySearchResult}
use Rattle.std.specs.Ordering.{nat_cmp}
use Rattle.std.specs.Result.{MatchResult}
use Rattle.std.proofs.lemmas.Bool.{cases_lt, ne_eqb, false≢true}
use Rattle.std.proofs.lemmas.Bool.Decides.{Decides-eqb}
use Rattle.std.proofs.lemmas.List.Kept.{AllPairs-from_increasing}
use Rattle.std.proofs.lemmas.List.Sorted.{searched}
use Rattle.std.proofs.lemmas.List.Recursion.{or_is}

pub rises : (xs : List ℕ) → IsStrictlyIncreasing xs → (i j : ℕ) → i ≤ j → j < length xs → get_or xs i 0 ≤ get_or xs j 0
rises xs h i j a b =
    elim (cases_lt i j) [
      | inl l ↦ (let k = AllPairs-from_increasing xs h i j 0 l b in omega arith)
      | inr g ↦ (let e : i ≡ j = omega arith in let f : get_or xs i 0 ≡ get_or xs j 0 = ap (λ k. get_or xs k 0) e in omega arith)
    ]

-- a search in a sorted list finds just the numbers that are in it
pub found : (xs : List ℕ) (x : ℕ) (r : Result ℕ ℕ) → IsStrictlyIncreasing xs → IsBinarySearchResult (λ y. nat_cmp y x) xs r → is_ok r ≡ list_any (λ y. y == x) xs
found xs x r h b = go r (searched xs x r b (rises xs h))
  where
    go : (r : Result ℕ ℕ) → MatchResult r (λ i. (i < length xs) × (get_or xs i 0 ≡ x)) (λ i. (i ≤ length xs) × ((k : ℕ) → k < i → get_or xs k 0 < x) × ((k : ℕ) → i ≤ k → k < length xs → x < get_or xs k 0)) → is_ok r ≡ list_any (λ y. y == x) xs
    go (Ok i) m = or_is (list_any (λ y. y == x)) (λ y. y == x) refl (λ _ _. refl) xs 0 true (λ _. (i, m.0, (Decides-eqb (get_or xs i 0) x).1 m.1)) (λ e. absurd (false≢true (sym e)))
    go (Err i) m =
        or_is (list_any (λ y. y == x)) (λ y. y == x) refl (λ _ _. refl) xs 0 false (λ e. absurd (false≢true e))
        (λ _ k l. ne_eqb (get_or xs k 0) x (λ e. elim (cases_lt k i) [ inl u ↦ (let a = m.1 k u in omega arith) | inr u ↦ (let a = m.2 k u l in omega arith) ]))
