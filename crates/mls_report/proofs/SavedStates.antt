-- A follower resumes from the file of the state after a log.
use Rattle.std.proofs.Common.{ℕ, List, [], ◌∷◌, Option}
use Rattle.mls_check.specs.Signatures.{VerifyFn}
use Rattle.mls_follow.specs.State.{State}
use Rattle.mls_follow.specs.StoredRuns.{IsResumable}
use Rattle.mls_follow.proofs.Resumable.{run_resumable}
use Rattle.mls_follow.proofs.StoredRuns.{resumable_resumes}
use Rattle.mls_follow.proofs.TimedRuns.{calls_at, timed_run}
use Rattle.mls_start.proofs.FirstStates.{first_resumable}
use Rattle.mls_report.specs.Replay.{ProcessedMessage, AreProcessed, state_after}
use Rattle.mls_report.specs.SavedStates.{SavedStatesResume, LaterMessagesFollow}

-- each processed message leads to a state that satisfies the conditions of a resumption
turns_resumable : (time : Option ℕ) (G : VerifyFn) (s : State) (turns : List ProcessedMessage) → IsResumable G s → AreProcessed time G s turns → IsResumable G (state_after s turns)
turns_resumable time G s [] held processed = held
turns_resumable time G s (turn ∷ turns) held processed =
    let run = timed_run time G s turn.bytes turn.answer turn.state processed.0 in
    turns_resumable time G turn.state turns (run_resumable G s turn.state (calls_at turn.bytes turn.answer) held run) processed.1

pub saved_resume : SavedStatesResume
saved_resume time G i s turns bytes first processed encodes =
    resumable_resumes G (state_after s turns) bytes (turns_resumable time G s turns (first_resumable G i s first) processed) encodes

pub later_follow : LaterMessagesFollow
later_follow time G s [] more h = h
later_follow time G s (turn ∷ turns) more h = later_follow time G turn.state turns more h.1
