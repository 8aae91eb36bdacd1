-- The report `gate`: the signatures of the start, and then an answer to each record of the input, before the next one
-- is read. `records0` and `records1` are what the input has left before and after, `written0` and `written1` what the
-- output holds. Used by contracts.
use Rattle.std.specs.Prelude.{◌≡◌, ◌⊎◌, ℕ, ◌-◌, ◌≤◌, ◌<◌, List, [], ◌∷◌, ◌++◌, length, map, Option}
use Rattle.std.specs.Io.KnownBytes.{Appends, Consumes, IsAtEnd}
use Rattle.mls_wire.specs.Devices.{AppendsPrefix}
use Rattle.mls_wire.specs.Logs.{IsRecord, IsBrokenAt, IsIncomplete}
use Rattle.mls_check.specs.Signatures.{VerifyFn}
use Rattle.mls_signatures.specs.declared.signature_to_verify.SignatureToVerify.{SignatureToVerify}
use Rattle.mls_follow.specs.CoveredLogs.{all_good}
use Rattle.mls_follow.specs.State.{State}
use Rattle.mls_start.specs.Inputs.{Inputs}
use Rattle.mls_start.specs.StartFindings.{Declines}
use Rattle.mls_start.specs.StartSignatures.{StartsWith}
use Rattle.mls_start.specs.declared.finding.Finding.{Finding}
use Rattle.mls_report.specs.Finding.{finding_line}
use Rattle.mls_report.specs.Replay.{AreRecords, IsLeftOver, ReportsNothing}
use Rattle.mls_wire.specs.declared.fault.RunFault.{RunFault}
use Rattle.mls_wire.specs.declared.fault.RunFault.TheVariants.{Read, Write, Memory}
use Rattle.mls_show.specs.declared.verdict.Verdict.{Verdict}
use Rattle.mls_show.specs.declared.verdict.Verdict.TheVariants.{No}
use Rattle.mls_gate.specs.Answers.{Answers, Goes, Ends, verify_lines, query_text, broken_line}
use Rattle.mls_gate.specs.Phases.{Phase, Opening, end_verdict}

-- The most records of an input: a limit of this library.
abbrev pub record_limit : ℕ
record_limit = 4294967295

-- ---- the records, and their answers

-- A record that was answered: its body, the text of its answer, and the phase after it.
pub record Turn : Type 0 where
  pub body : List ℕ
  pub text : List ℕ
  pub phase : Phase

-- `AreAnswered phase turns`: the records are answered one after the other, from the phase on.
abbrev pub AreAnswered : Phase → List Turn → Type 0
AreAnswered phase [] = Unit {0}
AreAnswered phase (turn ∷ turns) = Answers phase turn.body (Goes turn.text turn.phase) × AreAnswered turn.phase turns

-- `phase_after phase turns` is the phase after the records.
abbrev pub phase_after : Phase → List Turn → Phase
phase_after phase [] = phase
phase_after phase (turn ∷ turns) = phase_after turn.phase turns

-- `answers turns` is the text of the answers.
abbrev pub answers : List Turn → List ℕ
answers [] = []
answers (turn ∷ turns) = turn.text ++ answers turns

-- `records_to_come turns` is how many records may still come.
abbrev pub records_to_come : List Turn → ℕ
records_to_come turns = record_limit - length turns

-- `Serves phase records0 records1 turns rest`: the records that were read are answered, from the phase on. After them
-- the bytes `rest` were read.
pub record Serves (phase : Phase) (records0 records1 : Option (List ℕ)) (turns : List Turn) (rest : List ℕ)
    : Type 0 where
  pub answered : AreAnswered phase turns
  pub bounded : length turns ≤ record_limit
  pub records : List ℕ
  pub are_records : AreRecords (map (λ turn. turn.body) turns) records
  pub all_read : Consumes records0 records1 (records ++ rest)

-- ---- how the gate ends

-- `EndsBetween phase rest left text verdict`: the input has ended between two records.
pub record EndsBetween (phase : Phase) (rest : List ℕ) (left : Option (List ℕ)) (text : List ℕ) (verdict : Verdict)
    : Type 0 where
  pub nothing_read : rest ≡ []
  pub at_end : IsAtEnd left
  pub no_text : text ≡ []
  pub verdict_is : verdict ≡ end_verdict phase

-- `EndsBroken most rest left text verdict`: the next bytes are no record.
pub record EndsBroken (most : ℕ) (rest : List ℕ) (left : Option (List ℕ)) (text : List ℕ) (verdict : Verdict)
    : Type 0 where
  pub broken : IsBrokenAt most rest left
  pub text_is : text ≡ broken_line
  pub verdict_is : verdict ≡ No

-- `EndsAnswering phase most rest text verdict`: the answer to the next record ends the gate.
pub record EndsAnswering (phase : Phase) (most : ℕ) (rest text : List ℕ) (verdict : Verdict) : Type 0 where
  pub body : List ℕ
  pub allowed : 0 < most
  pub is_record : IsRecord rest body
  pub answers : Answers phase body (Ends text)
  pub verdict_is : verdict ≡ No

-- `IsEnding phase most rest left text verdict`: the gate ends with this text and this verdict. `most` records may still
-- come, and the bytes `rest` were read after the last one that was answered.
abbrev pub IsEnding : Phase → ℕ → List ℕ → Option (List ℕ) → List ℕ → Verdict → Type 0
IsEnding phase most rest left text verdict =
    EndsBetween phase rest left text verdict
    ⊎ (EndsBroken most rest left text verdict ⊎ EndsAnswering phase most rest text verdict)

-- ---- the report of the records

-- `ReportsRecords phase records0 records1 written0 written1 verdict`: each record was answered, and the gate has ended.
pub record ReportsRecords (phase : Phase) (records0 records1 written0 written1 : Option (List ℕ)) (verdict : Verdict)
    : Type 0 where
  pub turns : List Turn
  pub rest : List ℕ
  pub text : List ℕ
  pub serves : Serves phase records0 records1 turns rest
  pub ending : IsEnding (phase_after phase turns) (records_to_come turns) rest records1 text verdict
  pub wrote : Appends written0 written1 (answers turns ++ text)

-- `GateStopsReading phase records0 records1 written0 written1`: the input failed. Each whole record that was read was
-- answered, and the bytes after these determine nothing more.
pub record GateStopsReading (phase : Phase) (records0 records1 written0 written1 : Option (List ℕ)) : Type 0 where
  pub turns : List Turn
  pub rest : List ℕ
  pub serves : Serves phase records0 records1 turns rest
  pub undecided : IsIncomplete (records_to_come turns) rest
  pub wrote : Appends written0 written1 (answers turns)

-- `StopsInAnswer phase records0 records1 written0 written1`: the output failed in the answer to the last record that was
-- read. Nothing was read after that record.
pub record StopsInAnswer (phase : Phase) (records0 records1 written0 written1 : Option (List ℕ)) : Type 0 where
  pub turns : List Turn
  pub last : Turn
  pub serves : Serves phase records0 records1 (turns ++ last ∷ []) []
  pub part : List ℕ
  pub more : List ℕ
  pub text_is : last.text ≡ part ++ more
  pub wrote : Appends written0 written1 (answers turns ++ part)

-- `GateStopsInEnding phase records0 records1 written0 written1`: the output failed in the last text.
pub record GateStopsInEnding (phase : Phase) (records0 records1 written0 written1 : Option (List ℕ)) : Type 0 where
  pub turns : List Turn
  pub rest : List ℕ
  pub text : List ℕ
  pub verdict : Verdict
  pub serves : Serves phase records0 records1 turns rest
  pub ending : IsEnding (phase_after phase turns) (records_to_come turns) rest records1 text verdict
  pub part : List ℕ
  pub more : List ℕ
  pub text_is : text ≡ part ++ more
  pub wrote : Appends written0 written1 (answers turns ++ part)

-- `GateStopsWithoutMemory phase records0 records1 written0 written1`: memory ran out. Each record that was read was
-- answered, except the one at which it ran out.
pub record GateStopsWithoutMemory (phase : Phase) (records0 records1 written0 written1 : Option (List ℕ)) : Type 0 where
  pub turns : List Turn
  pub rest : List ℕ
  pub serves : Serves phase records0 records1 turns rest
  pub left_over : IsLeftOver (records_to_come turns) rest records1
  pub wrote : Appends written0 written1 (answers turns)

-- `GateStopsInQuery phase records0 records1 written0 written1`: memory ran out in the answer to the last record that was
-- read, a query. The lines of the signatures before were written whole. Nothing was read after that record.
pub record GateStopsInQuery (phase : Phase) (records0 records1 written0 written1 : Option (List ℕ)) : Type 0 where
  pub turns : List Turn
  pub last : Turn
  pub serves : Serves phase records0 records1 (turns ++ last ∷ []) []
  pub known : VerifyFn
  pub front : List SignatureToVerify
  pub rest : List SignatureToVerify
  pub text_is : last.text ≡ query_text known (front ++ rest)
  pub wrote : Appends written0 written1 (answers turns ++ verify_lines known front)

-- `RecordsPart phase records0 records1 written0 written1 fault`: what was written if not each record was answered, by
-- the fault that is returned.
abbrev pub RecordsPart : Phase → Option (List ℕ) → Option (List ℕ) → Option (List ℕ) → Option (List ℕ) → RunFault
    → Type 0
RecordsPart phase records0 records1 written0 written1 Read = GateStopsReading phase records0 records1 written0 written1
RecordsPart phase records0 records1 written0 written1 Write =
    StopsInAnswer phase records0 records1 written0 written1 ⊎ GateStopsInEnding phase records0 records1 written0 written1
RecordsPart phase records0 records1 written0 written1 Memory =
    GateStopsWithoutMemory phase records0 records1 written0 written1
    ⊎ GateStopsInQuery phase records0 records1 written0 written1

-- ---- the whole report of a gate from the inputs `i`

-- `DeclinesGate i ..`: no follower starts or resumes although each signature is good. No record was read, and one line
-- says why.
pub record DeclinesGate (i : Inputs) (records0 records1 written0 written1 : Option (List ℕ)) (verdict : Verdict)
    : Type 0 where
  pub finding : Finding
  pub declines : Declines all_good i finding
  pub unread : records1 ≡ records0
  pub wrote : Appends written0 written1 (finding_line finding)
  pub verdict_is : verdict ≡ No

-- `OpensGate time G i ..`: the signatures of the start that `G` does not accept were listed, and the records answered.
pub record OpensGate (time : Option ℕ) (G : VerifyFn) (i : Inputs)
    (records0 records1 written0 written1 : Option (List ℕ)) (verdict : Verdict) : Type 0 where
  pub state : State
  pub signatures : List SignatureToVerify
  pub can_start : StartsWith i state signatures
  pub between : Option (List ℕ)
  pub wrote : Appends written0 between (query_text G signatures)
  pub reports : ReportsRecords (Opening i time G) records0 records1 between written1 verdict

-- `Gates time G i ..`: the report was written whole. Either no follower starts or resumes although each signature is good,
-- or the records were answered, messages at first at the time.
abbrev pub Gates : Option ℕ → VerifyFn → Inputs → Option (List ℕ) → Option (List ℕ) → Option (List ℕ) → Option (List ℕ)
    → Verdict → Type 0
Gates time G i records0 records1 written0 written1 verdict =
    DeclinesGate i records0 records1 written0 written1 verdict
    ⊎ OpensGate time G i records0 records1 written0 written1 verdict

-- ---- a part of the report

-- `StopsDeclining i ..`: the output failed in the line that says why no follower starts or resumes.
pub record StopsDeclining (i : Inputs) (records0 records1 written0 written1 : Option (List ℕ)) : Type 0 where
  pub finding : Finding
  pub declines : Declines all_good i finding
  pub unread : records1 ≡ records0
  pub wrote : AppendsPrefix written0 written1 (finding_line finding)

-- `StopsOpening G i ..`: the output failed in the lines of the start, before a record was read.
pub record StopsOpening (G : VerifyFn) (i : Inputs) (records0 records1 written0 written1 : Option (List ℕ))
    : Type 0 where
  pub state : State
  pub signatures : List SignatureToVerify
  pub can_start : StartsWith i state signatures
  pub unread : records1 ≡ records0
  pub wrote : AppendsPrefix written0 written1 (query_text G signatures)

-- `OpensWithoutMemory G i ..`: memory ran out in the lines of the start, before a record was read. The lines of the
-- signatures before were written whole.
pub record OpensWithoutMemory (G : VerifyFn) (i : Inputs) (records0 records1 written0 written1 : Option (List ℕ))
    : Type 0 where
  pub state : State
  pub front : List SignatureToVerify
  pub rest : List SignatureToVerify
  pub can_start : StartsWith i state (front ++ rest)
  pub unread : records1 ≡ records0
  pub wrote : Appends written0 written1 (verify_lines G front)

-- `GateBefore G i .. fault`: no record was read, by the fault that is returned.
abbrev pub GateBefore : VerifyFn → Inputs → Option (List ℕ) → Option (List ℕ) → Option (List ℕ) → Option (List ℕ)
    → RunFault → Type 0
GateBefore G i records0 records1 written0 written1 Read = ⊥
GateBefore G i records0 records1 written0 written1 Write =
    StopsDeclining i records0 records1 written0 written1 ⊎ StopsOpening G i records0 records1 written0 written1
GateBefore G i records0 records1 written0 written1 Memory =
    ReportsNothing records0 records1 written0 written1
    ⊎ OpensWithoutMemory G i records0 records1 written0 written1

-- `GateAfter time G i .. fault`: the lines of the start were written, and not each record was answered.
pub record GateAfter (time : Option ℕ) (G : VerifyFn) (i : Inputs)
    (records0 records1 written0 written1 : Option (List ℕ)) (fault : RunFault) : Type 0 where
  pub state : State
  pub signatures : List SignatureToVerify
  pub can_start : StartsWith i state signatures
  pub between : Option (List ℕ)
  pub wrote : Appends written0 between (query_text G signatures)
  pub reports : RecordsPart (Opening i time G) records0 records1 between written1 fault

-- `GatesPart time G i .. fault`: what was written if the report was not written whole, by the fault that is returned. It is a
-- prefix of what the inputs and the bytes that were read determine.
abbrev pub GatesPart : Option ℕ → VerifyFn → Inputs → Option (List ℕ) → Option (List ℕ) → Option (List ℕ)
    → Option (List ℕ) → RunFault → Type 0
GatesPart time G i records0 records1 written0 written1 fault =
    GateBefore G i records0 records1 written0 written1 fault
    ⊎ GateAfter time G i records0 records1 written0 written1 fault
