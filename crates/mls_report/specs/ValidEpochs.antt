-- The epochs that `validate` and `replay` print are those of valid states: the tree is valid for the context's tree
-- hash, and its leaf nodes are valid under the context's required capabilities (RFC 9420, 7.3, 7.9.2 and 12.4.3.1). They meet
-- the strict rules that are asked (own rule). Used by contracts.
use Rattle.std.specs.Prelude.{◌≡◌, List, ℕ, true, Option, All}
use Rattle.mls_check.specs.Signatures.{VerifyFn}
use Rattle.mls_msgs.specs.Rules.{has_rule}
use Rattle.mls_follow.specs.State.{State}
use Rattle.mls_follow.specs.StrictnessKept.{IsStrictState}
use Rattle.mls_follow.specs.Validity.{IsValidState}
use Rattle.mls_start.specs.Inputs.{Inputs, asked_by}
use Rattle.mls_start.specs.StartFindings.{IsFirstState}
use Rattle.mls_report.specs.Replay.{ProcessedMessage, Follows}

-- A follower starts or resumes in a valid state. After each message of the log whose line was written, it is in a valid
-- state.
abbrev pub ReportedEpochsAreValid : Type 0
ReportedEpochsAreValid =
    (time : Option ℕ) (G : VerifyFn) (i : Inputs) (s : State) (log0 log1 : Option (List ℕ))
    (turns : List ProcessedMessage) (rest : List ℕ) → IsFirstState G i s → Follows time G s log0 log1 turns rest
    → IsValidState G s × All (λ turn. IsValidState G turn.state) turns

-- A follower starts or resumes in a strict state, with each strict rule that is asked. After each message of the log whose line
-- was written, it is in a strict state, with the same strict rules.
abbrev pub ReportedEpochsAreStrict : Type 0
ReportedEpochsAreStrict =
    (time : Option ℕ) (G : VerifyFn) (i : Inputs) (s : State) (log0 log1 : Option (List ℕ))
    (turns : List ProcessedMessage) (rest : List ℕ) → IsFirstState G i s → Follows time G s log0 log1 turns rest
    → ((n : ℕ) → has_rule (asked_by i) n ≡ true → has_rule s.rules n ≡ true)
    × IsStrictState s × All (λ turn. IsStrictState turn.state × (turn.state.rules ≡ s.rules)) turns
