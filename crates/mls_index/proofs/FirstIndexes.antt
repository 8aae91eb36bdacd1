-- The smallest number with a property, of what two searches found.
use Rattle.std.proofs.Common.{◌≡◌, ◌⊎◌, ℕ, true, false, Option, Some, None, inl, inr, arith}
use Rattle.std.specs.Prelude.{nat_lt}
use Rattle.std.proofs.lemmas.Bool.{cases_lt}
use Rattle.std.proofs.lemmas.Bool.Decides.{nat_tests}
use Rattle.mls_index.specs.FirstChanged.{smaller}
use Rattle.mls_index.specs.FirstIndex.{FindsFirst}

module _ (P Q R : ℕ → Type 0) (split : (i : ℕ) → R i → P i ⊎ Q i) (one : (i : ℕ) → P i → R i) (other : (i : ℕ) → Q i → R i) where
  neither : (i : ℕ) → (P i → ⊥) → (Q i → ⊥) → R i → ⊥
  neither i not not' r = elim (split i r) [
    | inl p ↦ not p
    | inr q ↦ not' q
  ]

  pub smaller_of : (o p : Option ℕ) → FindsFirst P o → FindsFirst Q p → FindsFirst R (smaller o p)
  smaller_of None None f g = λ i. neither i (f i) (g i)
  smaller_of (Some i) None f g = record { holds = one i f.holds; smaller = λ j low. neither j (f.smaller j low) (g j) }
  smaller_of None (Some j) f g = record { holds = other j g.holds; smaller = λ k low. neither k (f k) (g.smaller k low) }
  smaller_of (Some i) (Some j) f g = elim (cases_lt j i) [
    | inl less ↦
        (let e : nat_lt j i ≡ true = grind (arith, nat_tests) in
        rw e (record { holds = other j g.holds; smaller = λ k low. neither k (f.smaller k (omega (arith, low, less))) (g.smaller k low) }))
    | inr past ↦
        (let e : nat_lt j i ≡ false = grind (arith, nat_tests) in
        rw e (record { holds = one i f.holds; smaller = λ k low. neither k (f.smaller k low) (g.smaller k (omega (arith, low, past))) }))
  ]
