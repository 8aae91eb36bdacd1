-- How a report of one input ends. `IsReport bytes text verdict` says what the report of the input's bytes is. Used by
-- contracts.
use Rattle.std.specs.Prelude.{ℕ, List, [], Option, ◌⊎◌}
use Rattle.std.specs.Io.KnownBytes.{Appends}
use Rattle.mls_wire.specs.Devices.{AppendsPrefix}
use Rattle.mls_show.specs.ReadAll.{ReadsAll}
use Rattle.mls_show.specs.declared.verdict.Verdict.{Verdict}

-- `WritesReport IsReport left0 left1 written0 written1 verdict`: the input was read to its end, and the report of its
-- bytes was written whole.
pub record WritesReport (IsReport : List ℕ → List ℕ → Verdict → Type 0)
    (left0 left1 written0 written1 : Option (List ℕ)) (verdict : Verdict) : Type 0 where
  pub bytes : List ℕ
  pub text : List ℕ
  pub read : ReadsAll left0 left1 bytes
  pub report : IsReport bytes text verdict
  pub wrote : Appends written0 written1 text

-- `WritesPrefix IsReport left0 left1 written0 written1`: the input was read to its end, and a prefix of the report of
-- its bytes was written.
pub record WritesPrefix (IsReport : List ℕ → List ℕ → Verdict → Type 0)
    (left0 left1 written0 written1 : Option (List ℕ)) : Type 0 where
  pub bytes : List ℕ
  pub text : List ℕ
  pub verdict : Verdict
  pub read : ReadsAll left0 left1 bytes
  pub report : IsReport bytes text verdict
  pub wrote : AppendsPrefix written0 written1 text

-- `WritesPart IsReport left0 left1 written0 written1`: nothing was written, or a prefix of the report of an input that
-- had ended.
abbrev pub WritesPart : (List ℕ → List ℕ → Verdict → Type 0) → Option (List ℕ) → Option (List ℕ) → Option (List ℕ)
    → Option (List ℕ) → Type 0
WritesPart IsReport left0 left1 written0 written1 =
    Appends written0 written1 [] ⊎ WritesPrefix IsReport left0 left1 written0 written1
