-- Numbers of which each is below the next, by a test of each and its neighbour.
use Rattle.std.proofs.Common.{◌≡◌, ◌↔◌, ℕ, Bool, true, false, List, ltb, refl, sym, arith}
use Rattle.std.specs.Prelude.{IsTrue}
use Rattle.std.specs.Borrow.{Bor}
use Rattle.std.specs.Fn.{Mut, Called, ComputesOnPairs}
use Rattle.std.specs.List.{IsAllAdjacentAnswer}
use Rattle.std.specs.List.Sorted.{IsStrictlyIncreasing}
use Rattle.std.proofs.lemmas.Bool.{ltb-true, ltb-false}
use Rattle.std.proofs.lemmas.Fn.{always_returns_same}

increasing-answered : (xs : List ℕ) (r : Bool) → IsAllAdjacentAnswer (λ x y b. b ≡ ltb x y) xs r
    → IsTrue r ↔ IsStrictlyIncreasing xs
increasing-answered xs true h = (λ _. λ k lt. ltb-true _ _ (sym (h k 0 lt)), λ _. refl)
increasing-answered xs false h = (
  λ never. absurd cc,
  λ rises.
      let above = h.2 0 in
      let below = rises h.0 h.1 in
      absurd (omega (arith, ltb-false _ _ (sym above))),
)

-- what `is_sorted_by` tells by a closure that tests whether a number is below another
pub increasing-tested : {F : Type 0} {g : Mut F (Bor ℕ × (Bor ℕ × Unit {0})) Bool} (xs : List ℕ) (r : Bool) (f : F)
    → ((a : Bor ℕ × (Bor ℕ × Unit {0})) (b : Bool) (f' : F) → Called g f a b f' → (b ≡ ltb a.0.now a.1.0.now) × (f' ≡ f))
    → ((e : ℕ → ℕ → Bool) → ComputesOnPairs g e f → IsAllAdjacentAnswer (λ x y b. b ≡ e x y) xs r)
    → IsTrue r ↔ IsStrictlyIncreasing xs
increasing-tested xs r f call determined = increasing-answered xs r (determined ltb (always_returns_same _ _ f call))
