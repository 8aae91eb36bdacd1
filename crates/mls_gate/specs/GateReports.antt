-- The report of the gate exists, and is a function of what the group is followed from, of the bytes of the records and of
-- the checker's verification function G. Used by contracts.
use Rattle.std.specs.Prelude.{◌≡◌, ℕ, List, ◌++◌, Option, Some}
use Rattle.mls_check.specs.Signatures.{VerifyFn}
use Rattle.mls_start.specs.Inputs.{Inputs}
use Rattle.mls_report.specs.UniqueReports.{AreAlikeTexts}
use Rattle.mls_show.specs.declared.verdict.Verdict.{Verdict}
use Rattle.mls_gate.specs.GateReport.{Gates}

-- `IsGateReport time G i records text verdict`: a gate from these inputs and over the bytes of these records has written
-- this text, and has this verdict. Messages are judged at the time, if one is passed, until a record sets another.
pub record IsGateReport (time : Option ℕ) (G : VerifyFn) (i : Inputs) (records text : List ℕ) (verdict : Verdict)
    : Type 0 where
  pub records_left : Option (List ℕ)
  pub before : List ℕ
  pub gates : Gates time G i (Some records) records_left (Some before) (Some (before ++ text)) verdict

-- The inputs and the bytes of the records determine what a gate writes, and its verdict.
abbrev pub GateIsUnique : Type 0
GateIsUnique =
    (time : Option ℕ) (G : VerifyFn) (i : Inputs) (records text other : List ℕ) (verdict more : Verdict)
    → IsGateReport time G i records text verdict → IsGateReport time G i records other more
    → AreAlikeTexts text other × (verdict ≡ more)

-- The inputs and the bytes of the records have a report.
abbrev pub GateExists : Type 0
GateExists =
    (time : Option ℕ) (G : VerifyFn) (i : Inputs) (records : List ℕ)
    → (text : List ℕ) × (verdict : Verdict) × IsGateReport time G i records text verdict
