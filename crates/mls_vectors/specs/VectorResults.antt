-- The result of a vector: its checks are made in their order, and the first that fails names the result. Used by
-- contracts.
use Rattle.std.specs.Prelude.{ℕ, List, [], ◌∷◌, ◌≡◌, ◌⊎◌}

-- The result of a vector: it passes, it fails a check, or it is skipped.
pub data VectorResult : Type 0 where
  pass : VectorResult
  fail : List ℕ → VectorResult
  skip : VectorResult

-- A check of a vector: its name, and what has to hold.
pub record Check : Type 1 where
  pub name : List ℕ
  pub holds : Type 0

-- `check name holds` is the check with this name.
abbrev pub check : List ℕ → Type 0 → Check
check name holds = record { name = name; holds = holds }

-- `AllHold checks`: all checks hold.
abbrev pub AllHold : List Check → Type 0
AllHold [] = Unit {0}
AllHold (c ∷ cs) = c.holds × AllHold cs

-- `IsFirstToFail checks name`: the first check that fails has this name.
abbrev pub IsFirstToFail : List Check → List ℕ → Type 0
IsFirstToFail [] name = ⊥
IsFirstToFail (c ∷ cs) name = ((name ≡ c.name) × (¬ c.holds)) ⊎ (c.holds × IsFirstToFail cs name)

-- `IsVectorResult checks o`: the result by all checks of a vector.
abbrev pub IsVectorResult : List Check → VectorResult → Type 0
IsVectorResult checks pass = AllHold checks
IsVectorResult checks (fail name) = IsFirstToFail checks name
IsVectorResult checks skip = ⊥

-- `IsEarlyFailure checks o`: the result of a vector that fails one of these checks.
abbrev pub IsEarlyFailure : List Check → VectorResult → Type 0
IsEarlyFailure checks pass = ⊥
IsEarlyFailure checks (fail name) = IsFirstToFail checks name
IsEarlyFailure checks skip = ⊥
