-- Which branch of a definition by tests of numbers is taken.
use Rattle.std.proofs.Common.{◌≡◌, ℕ, ◌<◌, ◌≤◌, nat_lt, arith, true, false}
use Rattle.std.specs.Prelude.{◌==◌, if◌then◌else◌}
use Rattle.std.proofs.lemmas.Bool.Decides.{nat_tests}

pub false_no_true : false ≡ true → ⊥
false_no_true e = cc

pub not_less : (a b : ℕ) → b ≤ a → nat_lt a b ≡ false
not_less a b l = grind (arith, nat_tests)

pub is_less : (a b : ℕ) → a < b → nat_lt a b ≡ true
is_less a b l = grind (arith, nat_tests)

module _ {X : Type 0} where
  pub below : (a b : ℕ) (x y : X) → a < b → (if nat_lt a b then x else y) ≡ x
  below a b x y l = grind (arith, nat_tests)

  pub from : (a b : ℕ) (x y : X) → b ≤ a → (if nat_lt a b then x else y) ≡ y
  from a b x y l = grind (arith, nat_tests)

  pub here : (a b : ℕ) (x y z : X) → a ≡ b → (if a == b then x else (if nat_lt a b then y else z)) ≡ x
  here a b x y z l = grind (arith, nat_tests)

  pub before : (a b : ℕ) (x y z : X) → a < b → (if a == b then x else (if nat_lt a b then y else z)) ≡ y
  before a b x y z l = grind (arith, nat_tests)

  pub after : (a b : ℕ) (x y z : X) → b < a → (if a == b then x else (if nat_lt a b then y else z)) ≡ z
  after a b x y z l = grind (arith, nat_tests)

  pub same : (a b : ℕ) (x y : X) → a ≡ b → (if a == b then x else y) ≡ x
  same a b x y l = grind (arith, nat_tests)

  pub other : (a b : ℕ) (x y : X) → (a ≡ b → ⊥) → (if a == b then x else y) ≡ y
  other a b x y l = grind (arith, nat_tests)
