-- The node indices at which a condition fails. Used by contracts.
use Rattle.std.specs.Prelude.{ℕ, ◌<◌}

-- `IsFirstFailure P p`: the condition P fails at node index p, and at no smaller one.
pub record IsFirstFailure (P : ℕ → Type 0) (p : ℕ) : Type 0 where
  pub fails : P p → ⊥
  pub earlier : (q : ℕ) → q < p → P q
