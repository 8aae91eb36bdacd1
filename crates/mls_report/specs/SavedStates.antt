-- What `--save` is for: from the file of the state after a log a follower resumes in this state (own rule). So a replay
-- from this file answers each further message as the replay that goes on. Used by contracts.
use Rattle.std.specs.Prelude.{List, ℕ, ◌++◌, Option}
use Rattle.mls_check.specs.Signatures.{VerifyFn}
use Rattle.mls_follow.specs.State.{State}
use Rattle.mls_follow.specs.Resumption.{IsResumed}
use Rattle.mls_follow.specs.StoredState.{EncodesState}
use Rattle.mls_start.specs.Inputs.{Inputs}
use Rattle.mls_start.specs.StartFindings.{IsFirstState}
use Rattle.mls_report.specs.Replay.{ProcessedMessage, AreProcessed, state_after}

-- After messages are processed from the first state that inputs lead to, a follower resumes from the file of the state after
-- them, in this state.
abbrev pub SavedStatesResume : Type 0
SavedStatesResume =
    (time : Option ℕ) (G : VerifyFn) (i : Inputs) (s : State) (turns : List ProcessedMessage) (bytes : List ℕ)
    → IsFirstState G i s → AreProcessed time G s turns → EncodesState (state_after s turns) bytes → IsResumed G bytes (state_after s turns)

-- If messages are processed one after the other, those after the first ones are processed from the state after these,
-- with the same results and the same states.
abbrev pub LaterMessagesFollow : Type 0
LaterMessagesFollow =
    (time : Option ℕ) (G : VerifyFn) (s : State) (turns more : List ProcessedMessage)
    → AreProcessed time G s (turns ++ more) → AreProcessed time G (state_after s turns) more
