-- The first node index at which a condition fails, if there is one. Internal: no public contract uses this.
use Rattle.std.specs.Prelude.{ℕ, Option, MatchOption}
use Rattle.mls_check.specs.FirstFailure.{IsFirstFailure}

-- `IsFirstFailureIn P o`: `o` is the first node index at which P fails, or `None` if it holds at each.
abbrev pub IsFirstFailureIn : (ℕ → Type 0) → Option ℕ → Type 0
IsFirstFailureIn P o = MatchOption o ((p : ℕ) → P p) (λ p. IsFirstFailure P p)
