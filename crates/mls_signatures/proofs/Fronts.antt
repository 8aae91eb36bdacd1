-- The first elements of a list, one after the other.
use Rattle.std.proofs.Common.{◌≡◌, ◌∙◌, ℕ, zero, suc, ◌+◌, List, [], ◌∷◌, ◌++◌, take, refl, ap, add-one}
use Rattle.std.specs.Prelude.{slice_get}
use Rattle.std.specs.Option.{option_to_list}

front-suc : {X : Type 0} (xs : List X) (n : ℕ) → take (suc n) xs ≡ take n xs ++ option_to_list (slice_get xs n)
front-suc [] zero = refl
front-suc [] (suc n) = refl
front-suc (x ∷ xs) zero = refl
front-suc (x ∷ xs) (suc n) = ap (λ ys. x ∷ ys) (front-suc xs n)

pub front-more : {X : Type 0} (xs : List X) (n : ℕ) → take (n + 1) xs ≡ take n xs ++ option_to_list (slice_get xs n)
front-more xs n = ap (λ k. take k xs) (add-one n) ∙ front-suc xs n
