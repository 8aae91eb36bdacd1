-- Optional numbers that are stored as two lists.
use Rattle.std.proofs.Common.{◌≡◌, ◌<◌, ◌∙◌, ℕ, zero, suc, Bool, true, false, List, [], ◌∷◌, ◌++◌, length, get_or, cond, Option, Some, None, refl, sym, ap, arith}
use Rattle.std.specs.Prelude.{is_some, slice_get, slice_set, unwrap_or}
use Rattle.std.proofs.lemmas.Bool.{false≢true}
use Rattle.mls_index.specs.NumbersInternal.{optional_numbers}

-- The list has an entry for each mark.
length-optional_numbers : (are_some : List Bool) (numbers : List ℕ) → length are_some ≡ length numbers → length (optional_numbers are_some numbers) ≡ length are_some
length-optional_numbers [] numbers same = refl
length-optional_numbers (b ∷ are_some) [] same = absurd (omega (arith, same))
length-optional_numbers (b ∷ are_some) (n ∷ numbers) same = ap suc (length-optional_numbers are_some numbers (omega (arith, same)))

pub length-entries : (are_some : List Bool) (numbers : List ℕ) (entries : List (Option ℕ)) → length are_some ≡ length numbers
    → optional_numbers are_some numbers ≡ entries → length entries ≡ length are_some
length-entries are_some numbers entries same is = ap length (sym is) ∙ length-optional_numbers are_some numbers same

-- A mark and a number are one entry.
one_number : (o : Option ℕ) → cond (is_some o) (Some (unwrap_or o 0)) None ≡ o
one_number None = refl
one_number (Some n) = refl

-- A mark and a number are replaced.
pub optional_numbers-set : (are_some : List Bool) (numbers : List ℕ) (k : ℕ) (o : Option ℕ) → length are_some ≡ length numbers
    → optional_numbers (slice_set are_some k (is_some o)) (slice_set numbers k (unwrap_or o 0)) ≡ slice_set (optional_numbers are_some numbers) k o
optional_numbers-set [] numbers k o same = refl
optional_numbers-set (b ∷ are_some) [] k o same = absurd (omega (arith, same))
optional_numbers-set (b ∷ are_some) (n ∷ numbers) zero o same = ap (λ first. first ∷ optional_numbers are_some numbers) (one_number o)
optional_numbers-set (b ∷ are_some) (n ∷ numbers) (suc k) o same =
    ap (λ rest. (cond b (Some n) None) ∷ rest) (optional_numbers-set are_some numbers k o (omega (arith, same)))

-- A mark and a number are appended.
pub optional_numbers-append : (are_some : List Bool) (numbers : List ℕ) (o : Option ℕ) → length are_some ≡ length numbers
    → optional_numbers (are_some ++ is_some o ∷ []) (numbers ++ unwrap_or o 0 ∷ []) ≡ optional_numbers are_some numbers ++ o ∷ []
optional_numbers-append [] [] o same = ap (λ first. first ∷ []) (one_number o)
optional_numbers-append [] (n ∷ numbers) o same = absurd (omega (arith, same))
optional_numbers-append (b ∷ are_some) [] o same = absurd (omega (arith, same))
optional_numbers-append (b ∷ are_some) (n ∷ numbers) o same =
    ap (λ rest. (cond b (Some n) None) ∷ rest) (optional_numbers-append are_some numbers o (omega (arith, same)))

-- An entry that is marked is the number at its index.
pub optional_numbers-some : (are_some : List Bool) (numbers : List ℕ) (k n : ℕ) → length are_some ≡ length numbers → k < length are_some
    → true ≡ get_or are_some k true → n ≡ get_or numbers k n → unwrap_or (slice_get (optional_numbers are_some numbers) k) None ≡ Some n
optional_numbers-some [] numbers k n same low marked number = absurd (omega (arith, low))
optional_numbers-some (b ∷ are_some) [] k n same low marked number = absurd (omega (arith, same))
optional_numbers-some (true ∷ are_some) (m ∷ numbers) zero n same low marked number = ap Some (sym number)
optional_numbers-some (false ∷ are_some) (m ∷ numbers) zero n same low marked number = absurd (false≢true (sym marked))
optional_numbers-some (b ∷ are_some) (m ∷ numbers) (suc k) n same low marked number =
    optional_numbers-some are_some numbers k n (omega (arith, same)) (omega (arith, low)) marked number

-- An entry that isn't marked is none.
pub optional_numbers-none : (are_some : List Bool) (numbers : List ℕ) (k : ℕ) → false ≡ get_or are_some k false
    → unwrap_or (slice_get (optional_numbers are_some numbers) k) None ≡ None
optional_numbers-none [] numbers k unmarked = refl
optional_numbers-none (b ∷ are_some) [] k unmarked = refl
optional_numbers-none (true ∷ are_some) (m ∷ numbers) zero unmarked = absurd (false≢true unmarked)
optional_numbers-none (false ∷ are_some) (m ∷ numbers) zero unmarked = refl
optional_numbers-none (b ∷ are_some) (m ∷ numbers) (suc k) unmarked = optional_numbers-none are_some numbers k unmarked
