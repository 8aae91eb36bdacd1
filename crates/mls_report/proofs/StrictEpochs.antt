-- A follower that starts or resumes with strict rules is in a strict state, and stays in one, with the same strict rules,
-- through the messages of a log.
use Rattle.std.proofs.Common.{◌≡◌, ◌∙◌, ℕ, List, [], ◌∷◌, Option, refl}
use Rattle.std.specs.Prelude.{All}
use Rattle.std.proofs.lemmas.List.Elements.{All-nil, All-cons}
use Rattle.mls_check.specs.Signatures.{VerifyFn}
use Rattle.mls_msgs.specs.declared.rules.Rules.{Rules}
use Rattle.mls_follow.proofs.StrictnessKept.{runs_keep_rules, runs_keep_strictness}
use Rattle.mls_follow.proofs.TimedRuns.{calls_at, timed_run}
use Rattle.mls_follow.specs.State.{State}
use Rattle.mls_follow.specs.StrictnessKept.{IsStrictState}
use Rattle.mls_report.specs.Replay.{ProcessedMessage, AreProcessed}
use Rattle.mls_report.specs.ValidEpochs.{ReportedEpochsAreStrict}
use Rattle.mls_start.proofs.FirstStates.{first_strict}

-- after a message
abbrev StaysStrict : Rules → ProcessedMessage → Type 0
StaysStrict asked turn = IsStrictState turn.state × (turn.state.rules ≡ asked)

turns_strict : (time : Option ℕ) (G : VerifyFn) (asked : Rules) (s : State) (turns : List ProcessedMessage) → IsStrictState s → s.rules ≡ asked → AreProcessed time G s turns → All (StaysStrict asked) turns
turns_strict time G asked s [] strict rules taken = All-nil (StaysStrict asked)
turns_strict time G asked s (turn ∷ turns) strict rules taken =
    let calls = calls_at turn.bytes turn.answer in
    let run = timed_run time G s turn.bytes turn.answer turn.state taken.0 in
    let here = runs_keep_strictness G s turn.state calls strict run in
    let same = runs_keep_rules G s turn.state calls run ∙ rules in
    All-cons (StaysStrict asked) turn turns (here, same) (turns_strict time G asked turn.state turns here same taken.1)

pub reported_strict : ReportedEpochsAreStrict
reported_strict time G i s log0 log1 turns rest first follows =
    let strict = first_strict G i s first in
    (strict.0, strict.1, turns_strict time G s.rules s turns strict.1 refl follows.taken)
