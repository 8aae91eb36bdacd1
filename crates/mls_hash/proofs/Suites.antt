-- The supported suites, as a type and as a test.
use Rattle.std.proofs.Common.{◌≡◌, ◌≢◌, ◌∙◌, ℕ, Bool, true, false, refl, sym, inl, inr, arith}
use Rattle.std.specs.Prelude.{◌⊎◌, nat_le}
use Rattle.std.proofs.lemmas.Bool.{false≢true}
use Rattle.std.proofs.lemmas.Bool.Decides.{nat_tests}
use Rattle.mls_hash.specs.Suites.{IsSupported, is_supported}

pub passes_test : (suite : ℕ) → IsSupported suite → is_supported suite ≡ true
passes_test suite h = let low = h.0 in let high = h.1 in grind (arith, nat_tests)

pub supported_or_not : (suite : ℕ) → IsSupported suite ⊎ (¬ IsSupported suite)
supported_or_not suite = go (nat_le 1 suite) (nat_le suite 7) refl refl
  where
    go : (a b : Bool) → nat_le 1 suite ≡ a → nat_le suite 7 ≡ b → IsSupported suite ⊎ (¬ IsSupported suite)
    go true true p q = inl (grind (arith, nat_tests), grind (arith, nat_tests))
    go false b p q = inr (λ h. let le = h.0 in let t : nat_le 1 suite ≡ true = grind (arith, nat_tests) in false≢true (sym p ∙ t))
    go true false p q = inr (λ h. let le = h.1 in let t : nat_le suite 7 ≡ true = grind (arith, nat_tests) in false≢true (sym q ∙ t))
