-- Of conditions in an order: where what is said names the first that fails, it names one.
use Rattle.std.proofs.Common.{◌≡◌, ℕ, zero, suc, ◌<◌, Bool, true, false, refl, arith}
use Rattle.std.specs.Prelude.{nat_lt, nat_eq}
use Rattle.std.proofs.lemmas.Bool.Decides.{nat_tests}

-- a condition, and the ones behind it, by their places from 0 on
abbrev pub first_then : Type 0 → (ℕ → Type 0) → ℕ → Type 0
first_then condition others zero = condition
first_then condition others (suc k) = others k

-- behind the last there is none that is met
abbrev pub no_more : ℕ → Type 0
no_more k = ⊥

-- the conditions before a place are met
abbrev pub MetBefore : (ℕ → Type 0) → ℕ → Type 0
MetBefore Met n = (k : ℕ) → k < n → Met k

module _ {A : Type 0} (position : A → ℕ) (Met : ℕ → Type 0) (Said : A → Type 0)
    (before : (x : A) → Said x → MetBefore Met (position x)) (fails : (x : A) → Said x → Met (position x) → ⊥) where
  -- what is said has one place
  pub one_position : (x y : A) → Said x → Said y → position x ≡ position y
  one_position x y a b = by_order (nat_lt (position x) (position y)) refl (nat_lt (position y) (position x)) refl
    where
      by_order : (p : Bool) → nat_lt (position x) (position y) ≡ p → (q : Bool) → nat_lt (position y) (position x) ≡ q → position x ≡ position y
      by_order true e q f = absurd (fails x a (before y b (position x) (grind (arith, nat_tests))))
      by_order false e true f = absurd (fails y b (before x a (position y) (grind (arith, nat_tests))))
      by_order false e false f = grind (arith, nat_tests)

-- two numbers that a test tells apart
pub other_place : (m n : ℕ) → nat_eq m n ≡ false → m ≡ n → ⊥
other_place m n e same = grind (arith, nat_tests)
