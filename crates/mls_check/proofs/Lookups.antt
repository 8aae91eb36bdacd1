-- Searching a sorted list for a digest.
use Rattle.std.proofs.Common.{◌≡◌, ℕ, false, List, Option, Some, None, Result, Ok, Err, is_ok, Ordering, length, get_or, refl, sym, ap, ◌∙◌, arith, inl, inr}
use Rattle.std.specs.Prelude.{option_map}
use Rattle.std.specs.Ordering.{nat_cmp, is_eq}
use Rattle.std.specs.Cmp.Lexicographic.{slice_cmp}
use Rattle.std.specs.Str.{bytes_eq}
use Rattle.std.specs.List.{list_any}
use Rattle.std.specs.List.Sorted.{IsSorted, IsPermutation, IsBinarySearchResult, IsSearchInRange}
use Rattle.std.proofs.lemmas.Cmp.{nat_list_cmp_total}
use Rattle.std.proofs.lemmas.Map.Text.{is_eq-slice_cmp}
use Rattle.std.proofs.lemmas.Bool.{cases_lt}
use Rattle.std.proofs.lemmas.List.Sorted.{searchable_from_sorted, list_any-IsPermutation}
use Rattle.std.proofs.lemmas.List.Folds.{list_any_at, list_any_none}
use std.Path.{fun_ext}
use Rattle.sha2.specs.Sha256.{sha256}
use Rattle.mls_check.specs.Receipts.{receipt_input, is_listed, listed}

-- an ordering that isn't `Equal` is no equation of the bytes
differs : (xs ys : List ℕ) (o : Ordering) → slice_cmp nat_cmp xs ys ≡ o → is_eq o ≡ false → bytes_eq xs ys ≡ false
differs xs ys o e f = sym (is_eq-slice_cmp xs ys) ∙ (ap is_eq e ∙ f)

-- a binary search in a sorted list finds exactly what is in it
search_finds : (xs : List (List ℕ)) (x : List ℕ) (r : Result ℕ ℕ) → IsSorted (slice_cmp nat_cmp) xs → IsSearchInRange r (length xs) → IsBinarySearchResult (λ y. slice_cmp nat_cmp y x) xs r
    → is_ok r ≡ list_any (λ y. bytes_eq y x) xs
search_finds xs x (Ok i) up low h =
    sym (list_any_at (λ y. bytes_eq y x) xs i x low (sym (is_eq-slice_cmp (get_or xs i x) x) ∙ ap is_eq (h x)))
search_finds xs x (Err i) up low h =
    let parts = h (searchable_from_sorted nat_list_cmp_total (λ y. y) xs x up) in
    sym (list_any_none (λ y. bytes_eq y x) xs (λ k d inside.
    elim (cases_lt k i) [
      | inl left ↦ differs (get_or xs k d) x Ordering.Less (parts.0 k d (omega arith) left) refl
      | inr right ↦ differs (get_or xs k d) x Ordering.Greater (parts.1 k d right inside) refl
    ]))

-- what a list of receipts answers, by the digest of the input
listed-some : (digests : List (List ℕ)) (input : Option (List ℕ)) (digest : List ℕ) → Some digest ≡ option_map sha256 input → is_listed digests input ≡ list_any (λ d. bytes_eq d digest) digests
listed-some digests None digest e = absurd cc
listed-some digests (Some input) digest e =
    let f : digest ≡ sha256 input = cc in
    ap (λ (x : List ℕ). list_any (λ d. bytes_eq d x) digests) (sym f)

-- what a search for the digest of an input answers
pub search_answers : (digests slice : List (List ℕ)) (input : Option (List ℕ)) (digest : List ℕ) (r : Result ℕ ℕ) → slice ≡ digests → IsSorted (slice_cmp nat_cmp) digests
    → IsSearchInRange r (length slice) → IsBinarySearchResult (λ y. slice_cmp nat_cmp y digest) slice r → Some digest ≡ option_map sha256 input → is_ok r ≡ is_listed digests input
search_answers digests slice input digest r same up low h e =
    let up' : IsSorted (slice_cmp nat_cmp) slice = rw same up in
    let found = search_finds slice digest r up' low h in
    let there : is_ok r ≡ list_any (λ d. bytes_eq d digest) digests = rw (← same) found in
    there ∙ sym (listed-some digests input digest e)

is_listed-permutation : (old new : List (List ℕ)) → IsPermutation old new → (input : Option (List ℕ)) → is_listed new input ≡ is_listed old input
is_listed-permutation old new p None = refl
is_listed-permutation old new p (Some input) = sym (list_any-IsPermutation (λ d. bytes_eq d (sha256 input)) old new p)

-- the order of the digests is of no account
pub listed-permutation : (old new : List (List ℕ)) → IsPermutation old new → listed new ≡ listed old
listed-permutation old new p = fun_ext (λ s. fun_ext (λ k. fun_ext (λ c. fun_ext (λ g. is_listed-permutation old new p (receipt_input s k c g)))))
