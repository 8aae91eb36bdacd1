-- An input can be read, and `replay` and `signatures` have a report, for any bytes, any checker and any receipts. Used by
-- contracts.
use Rattle.std.specs.Prelude.{List, ℕ, Option, Some}
use Rattle.mls_check.specs.Signatures.{VerifyFn}
use Rattle.mls_start.specs.Inputs.{Inputs}
use Rattle.mls_report.specs.UniqueReports.{IsReplayReport, IsSignaturesReport}
use Rattle.mls_show.specs.ReadAll.{ReadsAll}
use Rattle.mls_show.specs.declared.verdict.Verdict.{Verdict}

-- Something is read of the bytes of a source to its end.
abbrev pub InputExists : Type 0
InputExists = (all : List ℕ) → (bytes : List ℕ) × (left : Option (List ℕ)) × ReadsAll (Some all) left bytes

-- The inputs and the bytes of a log have a report `replay`.
abbrev pub ReplayExists : Type 0
ReplayExists =
    (time : Option ℕ) (G : VerifyFn) (i : Inputs) (log_bytes : List ℕ)
    → (text : List ℕ) × (verdict : Verdict) × IsReplayReport time G i log_bytes text verdict

-- The inputs, and the bytes of a log or none, have a report `signatures`.
abbrev pub SignaturesExist : Type 0
SignaturesExist =
    (R : VerifyFn) (i : Inputs) (log_bytes : Option (List ℕ))
    → (text : List ℕ) × (verdict : Verdict) × IsSignaturesReport R i log_bytes text verdict
