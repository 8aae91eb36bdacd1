-- What a time changes in the answers of a follower: it refuses more, and changes nothing else (RFC 9420, 7.2). `now` is the
-- time that is passed, if one is. Used by contracts.
use Rattle.std.specs.Prelude.{◌≡◌, ◌⊎◌, ◌↔◌, ◌≤◌, ℕ, List, Option, Some, Result, Err}
use Rattle.mls_nodes.specs.Requirements.{Requires}
use Rattle.mls_nodes.specs.declared.required_capabilities.RequiredCapabilities.{RequiredCapabilities}
use Rattle.mls_check.specs.Signatures.{VerifyFn}
use Rattle.mls_msgs.specs.declared.rules.Rules.{Rules}
use Rattle.mls_apply.specs.Refusals.{number_of}
use Rattle.mls_apply.specs.declared.refusal.Refusal.{Refusal}
use Rattle.mls_apply.specs.declared.refusal.Refusal.TheVariants.{LifetimeOutside, OutOfMemory}
use Rattle.mls_follow.specs.Acceptance.{IsAcceptable, IsFirstRefusal}
use Rattle.mls_follow.specs.CoveredLogs.{all_good, CoversMessage}
use Rattle.mls_follow.specs.Runs.{IsWellFormed}
use Rattle.mls_follow.specs.State.{State}
use Rattle.mls_follow.specs.StrictRuns.{Includes, with_rules}
use Rattle.mls_follow.specs.TimedAcceptance.{IsAcceptableAt, IsFirstRefusalAt, IsTransitionAt}
use Rattle.mls_follow.specs.Validity.{IsValidState}
use Rattle.mls_follow.specs.declared.taken.Taken.{Taken}

-- `IsAnswerAt now G s bytes answer new`: `take_at` may return `answer` and leave the state `new`, and the answer is not out of
-- memory.
pub record IsAnswerAt
    (now : Option ℕ) (G : VerifyFn) (s : State) (bytes : List ℕ) (answer : Result Taken Refusal) (new : State)
    : Type 0 where
  pub takes : IsTransitionAt now G s bytes answer new
  pub memory : answer ≡ Err OutOfMemory → ⊥

-- `HasAnswerAt now G s bytes`: there is such an answer.
abbrev pub HasAnswerAt : Option ℕ → VerifyFn → State → List ℕ → Type 0
HasAnswerAt now G s bytes =
    (answer : Result Taken Refusal) × (new : State) × IsAnswerAt now G s bytes answer new

-- ---- theorems

-- There is at most one such answer, with one state after it.
abbrev pub TimedAnswerIsUnique : Type 0
TimedAnswerIsUnique =
    (now : Option ℕ) (G : VerifyFn) (s : State) (bytes : List ℕ) (a b : Result Taken Refusal) (x y : State)
    → IsAnswerAt now G s bytes a x → IsAnswerAt now G s bytes b y → (a ≡ b) × (x ≡ y)

-- In a well-formed state whose required capabilities can be read, there is such an answer to any bytes.
abbrev pub TimedAnswerExists : Type 0
TimedAnswerExists =
    (now : Option ℕ) (G : VerifyFn) (s : State) (required : RequiredCapabilities) (bytes : List ℕ) → IsWellFormed s
    → Requires s.context required → HasAnswerAt now G s bytes

-- What is refused without a time is refused at each time, by the same rule.
abbrev pub RefusalsStayAtTimes : Type 0
RefusalsStayAtTimes =
    (now : Option ℕ) (G : VerifyFn) (s : State) (bytes : List ℕ) (e : Refusal) → IsFirstRefusal G s bytes e
    → IsFirstRefusalAt now G s bytes e

-- What is accepted without a time is accepted at a time, or refused there for a lifetime.
abbrev pub AcceptedOrOutside : Type 0
AcceptedOrOutside =
    (now : ℕ) (G : VerifyFn) (s : State) (bytes : List ℕ) → IsAcceptable G s bytes
    → IsAcceptableAt (Some now) G s bytes ⊎ IsFirstRefusalAt (Some now) G s bytes LifetimeOutside

-- If a valid state's checker accepts each signature of a message, its answer at each time is that of a checker that accepts
-- every signature.
abbrev pub CoveredAnswersAtTimes : Type 0
CoveredAnswersAtTimes =
    (now : Option ℕ) (R : VerifyFn) (s : State) (bytes : List ℕ) (answer : Result Taken Refusal) (new : State)
    → IsValidState R s → CoversMessage R s bytes
    → IsAnswerAt now R s bytes answer new ↔ IsAnswerAt now all_good s bytes answer new

-- ---- strict rules at one time: the set `more` has each rule of the set `asked`

-- What is acceptable at a time is so to a follower with fewer rules.
abbrev pub FewerAcceptAtTimes : Type 0
FewerAcceptAtTimes =
    (now : Option ℕ) (G : VerifyFn) (s : State) (asked more : Rules) (bytes : List ℕ) → Includes more asked
    → IsAcceptableAt now G (with_rules s more) bytes → IsAcceptableAt now G (with_rules s asked) bytes

-- What is refused at a time is refused by a follower with more rules, by a number that is not greater.
abbrev pub MoreRefuseAtTimes : Type 0
MoreRefuseAtTimes =
    (now : Option ℕ) (G : VerifyFn) (s : State) (asked more : Rules) (bytes : List ℕ) (e : Refusal) → Includes more asked
    → IsFirstRefusalAt now G (with_rules s asked) bytes e
    → (f : Refusal) × IsFirstRefusalAt now G (with_rules s more) bytes f × (number_of f ≤ number_of e)

-- What is refused at a time and not without one is refused so by a follower with fewer rules too.
abbrev pub FewerRefuseAtTimes : Type 0
FewerRefuseAtTimes =
    (now : Option ℕ) (G : VerifyFn) (s : State) (asked more : Rules) (bytes : List ℕ) (e : Refusal) → Includes more asked
    → IsAcceptable G (with_rules s more) bytes → IsFirstRefusalAt now G (with_rules s more) bytes e
    → IsFirstRefusalAt now G (with_rules s asked) bytes e
