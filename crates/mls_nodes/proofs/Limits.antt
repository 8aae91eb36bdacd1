-- Short lists fit into a vector.
use Rattle.std.proofs.Common.{◌≡◌, ℕ, zero, suc, ◌*◌, ◌^◌, ◌<◌, ◌≤◌, List, [], ◌∷◌, ◌++◌, length, get_or, Some, refl, ap, ◌∙◌, arith, length-append}
use Rattle.std.specs.Prelude.{option_map, IsSome, insert, nat_lt}
use Rattle.std.specs.Int.{w32, to_be_bytes}
use Rattle.std.proofs.lemmas.List.{take_all}
use Rattle.std.proofs.lemmas.List.Edits.{length-insert}
use Rattle.mls_wire.specs.Encoding.{number, items, list}
use Rattle.mls_wire.specs.OptionBind.{some_is, allowed}
use Rattle.mls_wire.specs.EncodingConcat.{joined, join}
use Rattle.mls_wire.specs.IntegersExact.{number_made, wide32}
use Rattle.mls_wire.specs.EncodedSizes.{list_some, fits_all}

numbers_made : (xs : List ℕ) → ((i d : ℕ) → i < length xs → get_or xs i d < 4294967296) → (text : List ℕ) × (items (number w32) xs ≡ Some text) × (length text ≡ 4 * length xs)
unfolding items
numbers_made [] fit = ([], refl, refl)
numbers_made (x ∷ xs) fit =
    let others = numbers_made xs (λ i d lt. fit (suc i) d (omega arith)) in
    (to_be_bytes w32 x ++ others.0, join _ _ _ _ (number_made w32 x (fit 0 0 (omega arith))) others.1, omega (arith, length-append (to_be_bytes w32 x) others.0, wide32.len x, others.2))

-- a list of at most 1,048,576 numbers
pub numbers_fit : (xs : List ℕ) → ((i d : ℕ) → i < length xs → get_or xs i d < 4294967296) → length xs ≤ 1048576 → IsSome (list (number w32) xs)
numbers_fit xs fit le =
    let all = numbers_made xs fit in
    fits_all (number w32) xs (length xs) (length all.0) (omega arith) (ap (λ (ys : List ℕ). option_map length (items (number w32) ys)) (take_all (length xs) xs (omega arith)) ∙ ap (option_map length) all.1) (omega (arith, all.2))

number_long : (x : ℕ) (text : List ℕ) → number w32 x ≡ Some text → length text ≡ 4
unfolding number
number_long x text e = let n = some_is _ _ ((allowed (nat_lt x (2 ^ 32)) (Some (to_be_bytes w32 x)) text e).1) in omega (arith, wide32.len x, ap length n)

numbers_long : (xs text : List ℕ) → items (number w32) xs ≡ Some text → length text ≡ 4 * length xs
unfolding items
numbers_long [] text e = omega (arith, ap length (some_is _ _ e))
numbers_long (x ∷ xs) text e =
    let a = joined (number w32 x) (items (number w32) xs) text e in
    omega (arith, number_long x a.0 a.2, numbers_long xs a.1 a.3, ap length a.4, length-append a.0 a.1)

-- one more number, put among others
numbers_with : (xs : List ℕ) (i x : ℕ) (text : List ℕ) → x < 4294967296 → items (number w32) xs ≡ Some text → (more : List ℕ) × (items (number w32) (insert xs i x) ≡ Some more)
unfolding items
numbers_with [] zero x text lt e = (to_be_bytes w32 x ++ [], join _ _ _ _ (number_made w32 x lt) refl)
numbers_with [] (suc i) x text lt e = (to_be_bytes w32 x ++ [], join _ _ _ _ (number_made w32 x lt) refl)
numbers_with (y ∷ xs) zero x text lt e = (to_be_bytes w32 x ++ text, join _ _ _ _ (number_made w32 x lt) e)
numbers_with (y ∷ xs) (suc i) x text lt e =
    let a = joined (number w32 y) (items (number w32) xs) text e in
    let b = numbers_with xs i x a.1 lt a.3 in
    (a.0 ++ b.0, join _ _ _ _ a.2 b.1)

-- a short list fits with one number more
pub numbers_more : (xs : List ℕ) (i x : ℕ) → i ≤ length xs → x < 4294967296 → length xs < 1048576 → IsSome (list (number w32) xs) → IsSome (list (number w32) (insert xs i x))
numbers_more xs i x inside lt capacity h =
    let a = list_some (number w32) xs h in
    let b = numbers_with xs i x a.0 lt a.1 in
    let all = insert xs i x in
    fits_all (number w32) all (length all) (length b.0) (omega arith) (ap (λ (ys : List ℕ). option_map length (items (number w32) ys)) (take_all (length all) all (omega arith)) ∙ ap (option_map length) b.1)
    (omega (arith, numbers_long all b.0 b.1, length-insert xs i x inside))
