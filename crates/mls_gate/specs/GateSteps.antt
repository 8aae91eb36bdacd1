-- The contracts of the steps of the gate. `meaning` is the verification function of a checker. Internal: no public
-- contract uses this.
use Rattle.std.specs.Prelude.{◌≡◌, ◌⊎◌, ℕ, List, [], ◌++◌, drop, Bool, true, false, Option, Some, None, string_bytes}
use Rattle.std.specs.Io.KnownBytes.{Appends}
use Rattle.mls_wire.specs.Devices.{AppendsPrefix}
use Rattle.mls_check.specs.Signatures.{VerifyFn}
use Rattle.mls_signatures.specs.declared.signature_to_verify.SignatureToVerify.{SignatureToVerify}
use Rattle.mls_follow.specs.CoveredLogs.{all_good}
use Rattle.mls_follow.specs.FollowerModel.{checker_of, state_of}
use Rattle.mls_follow.specs.State.{State}
use Rattle.mls_start.specs.Inputs.{Inputs, inputs_of}
use Rattle.mls_start.specs.StartFindings.{IsFirstState}
use Rattle.mls_report.specs.SignaturesReport.{HasSignatures}
use Rattle.mls_report.specs.SignaturesSteps.{LinesWithoutMemory}
use Rattle.mls_wire.specs.declared.fault.RunFault.{RunFault}
use Rattle.mls_wire.specs.declared.fault.RunFault.TheVariants.{Read, Write, Memory}
use Rattle.mls_show.specs.declared.verdict.Verdict.{Verdict}
use Rattle.mls_show.specs.declared.verdict.Verdict.TheVariants.{No}
use Rattle.mls_gate.specs.Answers.{Outcome, Goes, Ends, Responds, verify_lines, query_text, message_query, broken_line}
use Rattle.mls_gate.specs.Phases.{Phase, Opening, Following, end_verdict}
use Rattle.mls_gate.specs.Requests.{request_of}
use Rattle.mls_gate.specs.declared.phase.Answer.{Answer}
use Rattle.mls_gate.specs.declared.phase.Answer.TheVariants as said
use Rattle.mls_gate.specs.declared.phase.GatePhase.{GatePhase}
use Rattle.mls_gate.specs.declared.phase.GatePhase.TheVariants as phases
use Rattle.mls_gate.specs.declared.request.Request.{Request}

-- ---- the phase

-- The phase that the gate is in. None if it has ended.
abbrev pub phase_of : {C : Type 0} {g : _} → (C → VerifyFn) → GatePhase C g → Option Phase
phase_of meaning (phases.Opening start judge) = Some (Opening (inputs_of start) judge.time (meaning judge.checker))
phase_of meaning (phases.Following follower time) =
    Some (Following time (meaning (checker_of follower)) (state_of follower))
phase_of meaning phases.Over = None

-- The gate can answer a record: it has not ended, and a follower starts or resumes from the inputs, each signature being
-- good.
abbrev pub IsReady : Option Phase → Type 0
IsReady None = ⊥
IsReady (Some (Opening i time G)) = (s : State) × IsFirstState all_good i s
IsReady (Some (Following time G s)) = Unit {0}

-- `CanOpen o`: no follower has started yet, and one starts or resumes from the inputs, each signature being good.
pub record CanOpen (o : Option Phase) : Type 0 where
  pub inputs : Inputs
  pub time : Option ℕ
  pub verify : VerifyFn
  pub is : o ≡ Some (Opening inputs time verify)
  pub ready : (s : State) × IsFirstState all_good inputs s

-- `FromOpening o Holds`: this holds of the phase, if no follower has started yet.
abbrev pub FromOpening : Option Phase → (Phase → Type 0) → Type 0
FromOpening o Holds = (i : Inputs) (time : Option ℕ) (G : VerifyFn) → o ≡ Some (Opening i time G) → Holds (Opening i time G)

-- The verdict if the input ends between two records.
abbrev pub verdict_at : Option Phase → Verdict
verdict_at None = No
verdict_at (Some phase) = end_verdict phase

-- ---- a record

-- The outcome of a request in a phase. A gate that has ended has no answer to any.
abbrev pub RespondsIn : Option Phase → Option Request → List ℕ → Outcome → Type 0
RespondsIn None request rest outcome = outcome ≡ Ends broken_line
RespondsIn (Some phase) request rest outcome = Responds phase request rest outcome

-- The outcome of a record with this body.
abbrev pub AnswersIn : Option Phase → List ℕ → Outcome → Type 0
AnswersIn phase body outcome = RespondsIn phase (request_of body) (drop 1 body) outcome

-- The text is that of such an outcome. It ends the gate if the flag is true, and otherwise leads to this phase.
abbrev pub Replies : (Outcome → Type 0) → List ℕ → Bool → Option Phase → Type 0
Replies Meets text false after = (phase : Phase) × Meets (Goes text phase) × (after ≡ Some phase)
Replies Meets text true after = Meets (Ends text)

-- What is still to be written of an answer.
abbrev pub text_of : Answer → List ℕ
text_of said.Silent = []
text_of (said.Goes text) = string_bytes text
text_of (said.Ends text) = string_bytes text
text_of said.Broken = broken_line

-- Whether an answer ends the gate.
abbrev pub is_last : Answer → Bool
is_last said.Silent = false
is_last (said.Goes text) = false
is_last (said.Ends text) = true
is_last said.Broken = true

-- The answer is such an outcome.
abbrev pub Gives : (Outcome → Type 0) → Option Phase → Answer → Type 0
Gives Meets after answer = Replies Meets (text_of answer) (is_last answer) after

-- Some lines were written, and with them the answer is such an outcome.
pub record GivesBehind (Meets : Outcome → Type 0) (after : Option Phase) (written0 written1 : Option (List ℕ))
    (answer : Answer) : Type 0 where
  pub lines : List ℕ
  pub wrote : Appends written0 written1 lines
  pub replies : Replies Meets (lines ++ text_of answer) (is_last answer) after

-- An answer that is such an outcome was written.
pub record Answered (Meets : Outcome → Type 0) (after : Option Phase) (written0 written1 : Option (List ℕ)) (last : Bool)
    : Type 0 where
  pub text : List ℕ
  pub replies : Replies Meets text last after
  pub wrote : Appends written0 written1 text

-- The output failed in such an answer.
pub record StopsInText (Meets : Outcome → Type 0) (after : Option Phase) (written0 written1 : Option (List ℕ))
    : Type 0 where
  pub text : List ℕ
  pub last : Bool
  pub replies : Replies Meets text last after
  pub wrote : AppendsPrefix written0 written1 text

-- Memory ran out in the lines of such an answer, to a query. The lines of the signatures before were written whole.
pub record StopsInQuery (Meets : Outcome → Type 0) (after : Option Phase) (written0 written1 : Option (List ℕ))
    : Type 0 where
  pub known : VerifyFn
  pub front : List SignatureToVerify
  pub rest : List SignatureToVerify
  pub replies : Replies Meets (query_text known (front ++ rest)) false after
  pub wrote : Appends written0 written1 (verify_lines known front)

-- No such answer was written whole, with this fault.
abbrev pub StopsAnswering : (Outcome → Type 0) → Option Phase → Option (List ℕ) → Option (List ℕ) → RunFault → Type 0
StopsAnswering Meets after written0 written1 Read = ⊥
StopsAnswering Meets after written0 written1 Write = StopsInText Meets after written0 written1
StopsAnswering Meets after written0 written1 Memory =
    Appends written0 written1 [] ⊎ StopsInQuery Meets after written0 written1

-- The lines of the list are those of a query of a message in a state.
pub record IsQueried (G : VerifyFn) (s : State) (message : List ℕ) (needed : List SignatureToVerify) : Type 0 where
  pub signatures : Option (List SignatureToVerify)
  pub has_signatures : HasSignatures s message signatures
  pub same : query_text G needed ≡ message_query G signatures

-- ---- lines of signatures

-- The lines of signatures and the last one were not written whole, with this fault.
abbrev pub StopsInQueryText : VerifyFn → List SignatureToVerify → Option (List ℕ) → Option (List ℕ) → RunFault → Type 0
StopsInQueryText G signatures written0 written1 Read = ⊥
StopsInQueryText G signatures written0 written1 Write = AppendsPrefix written0 written1 (query_text G signatures)
StopsInQueryText G signatures written0 written1 Memory = LinesWithoutMemory (verify_lines G) signatures written0 written1
