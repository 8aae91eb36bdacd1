-- A follower that starts or resumes is in a valid state, and stays in one through the messages of a log.
use Rattle.std.proofs.Common.{ℕ, List, [], ◌∷◌, Option}
use Rattle.std.specs.Prelude.{All}
use Rattle.std.proofs.lemmas.List.Elements.{All-nil, All-cons}
use Rattle.mls_check.specs.Signatures.{VerifyFn}
use Rattle.mls_follow.proofs.TimedRuns.{calls_at, timed_run}
use Rattle.mls_follow.proofs.Validity.{run_valid}
use Rattle.mls_follow.specs.State.{State}
use Rattle.mls_follow.specs.Validity.{IsValidState}
use Rattle.mls_report.specs.Replay.{ProcessedMessage, AreProcessed}
use Rattle.mls_report.specs.ValidEpochs.{ReportedEpochsAreValid}
use Rattle.mls_start.proofs.FirstStates.{first_valid}

turns_valid : (time : Option ℕ) (G : VerifyFn) (s : State) (turns : List ProcessedMessage) → IsValidState G s → AreProcessed time G s turns → All (λ (t : ProcessedMessage). IsValidState G t.state) turns
turns_valid time G s [] valid taken = All-nil (λ (t : ProcessedMessage). IsValidState G t.state)
turns_valid time G s (turn ∷ turns) valid taken =
    let here = run_valid G s (calls_at turn.bytes turn.answer) turn.state valid (timed_run time G s turn.bytes turn.answer turn.state taken.0) in
    All-cons (λ (t : ProcessedMessage). IsValidState G t.state) turn turns here (turns_valid time G turn.state turns here taken.1)

pub reported_valid : ReportedEpochsAreValid
reported_valid time G i s log0 log1 turns rest first follows =
    let valid = first_valid G i s first in
    (valid, turns_valid time G s turns valid follows.taken)
