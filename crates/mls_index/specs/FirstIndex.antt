-- The smallest number with a property. Used by contracts.
use Rattle.std.specs.Prelude.{ℕ, ◌<◌, Option, Some, None}

-- `IsLeast P i`: i has the property P, and no smaller number has it.
pub record IsLeast (P : ℕ → Type 0) (i : ℕ) : Type 0 where
  pub holds : P i
  pub smaller : (j : ℕ) → j < i → ¬ P j

-- `FindsFirst P o`: `o` is the smallest number with the property P, or `None` if no number has it.
abbrev pub FindsFirst : (ℕ → Type 0) → Option ℕ → Type 0
FindsFirst P None = (i : ℕ) → ¬ P i
FindsFirst P (Some i) = IsLeast P i
