-- What the records of a gate do to its follower: a run in which the checker learns (own rule). `initial` is the time at which
-- messages are judged at first, `time` that after the records. Used by contracts.
use Rattle.std.specs.Prelude.{◌≡◌, ◌↔◌, ℕ, List, Option, Result}
use Rattle.mls_check.specs.Signatures.{VerifyFn, Extends}
use Rattle.mls_follow.specs.CoveredLogs.{all_good, CoversMessage}
use Rattle.mls_follow.specs.Resumption.{IsResumed}
use Rattle.mls_follow.specs.RisingRuns.{Event, IsRisingRun, last_meaning}
use Rattle.mls_follow.specs.State.{State}
use Rattle.mls_follow.specs.StoredState.{EncodesState}
use Rattle.mls_follow.specs.TimedAnswers.{IsAnswerAt}
use Rattle.mls_follow.specs.Validity.{IsValidState}
use Rattle.mls_apply.specs.declared.refusal.Refusal.{Refusal}
use Rattle.mls_follow.specs.declared.taken.Taken.{Taken}
use Rattle.mls_start.specs.Inputs.{Inputs}
use Rattle.mls_start.specs.StartFindings.{IsFirstState}
use Rattle.mls_gate.specs.GateReport.{Turn, AreAnswered, phase_after}
use Rattle.mls_gate.specs.Phases.{Opening, Following}

-- `IsGateRun G first K last`: a rising run leads from one state to another, and its verification function is `G` before
-- it and `K` after it.
pub record IsGateRun (G : VerifyFn) (first : State) (K : VerifyFn) (last : State) : Type 0 where
  pub events : List Event
  pub rises : IsRisingRun G first events last
  pub meaning : last_meaning G events ≡ K

-- `HasStarted i G K s`: a follower has started or resumed from the inputs by what was learnt then, which extends `G`, and
-- a rising run led from there to the state `s`, with `K` at last.
pub record HasStarted (i : Inputs) (G K : VerifyFn) (s : State) : Type 0 where
  pub known : VerifyFn
  pub extends : Extends G known
  pub first : State
  pub started : IsFirstState known i first
  pub run : IsGateRun known first K s

-- A gate that follows has started a follower, and its records are a rising run of it.
abbrev pub GatesRise : Type 0
GatesRise =
    (i : Inputs) (initial time : Option ℕ) (G K : VerifyFn) (turns : List Turn) (s : State)
    → AreAnswered (Opening i initial G) turns
    → phase_after (Opening i initial G) turns ≡ Following time K s → HasStarted i G K s

-- The follower's state is valid by what was learnt so far.
abbrev pub GatesAreValid : Type 0
GatesAreValid =
    (i : Inputs) (initial time : Option ℕ) (G K : VerifyFn) (turns : List Turn) (s : State)
    → AreAnswered (Opening i initial G) turns
    → phase_after (Opening i initial G) turns ≡ Following time K s → IsValidState K s

-- If each signature of a message was learnt, its answer and the state after it are those as if every signature were
-- good.
abbrev pub GateAnswersAreTrusted : Type 0
GateAnswersAreTrusted =
    (i : Inputs) (initial time : Option ℕ) (G K : VerifyFn) (turns : List Turn) (s new : State) (bytes : List ℕ)
    (answer : Result Taken Refusal) → AreAnswered (Opening i initial G) turns
    → phase_after (Opening i initial G) turns ≡ Following time K s → CoversMessage K s bytes
    → IsAnswerAt time K s bytes answer new ↔ IsAnswerAt time all_good s bytes answer new

-- From the file of the follower's state a follower resumes in this state, by what was learnt so far.
abbrev pub GateStatesResume : Type 0
GateStatesResume =
    (i : Inputs) (initial time : Option ℕ) (G K : VerifyFn) (turns : List Turn) (s : State) (bytes : List ℕ)
    → AreAnswered (Opening i initial G) turns
    → phase_after (Opening i initial G) turns ≡ Following time K s → EncodesState s bytes → IsResumed K bytes s
