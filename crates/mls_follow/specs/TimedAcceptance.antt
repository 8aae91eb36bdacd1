-- Which messages a follower accepts at a time that is passed, if one is, and the first rule that a refused one fails (RFC
-- 9420, 7.2, 7.3 and 10.1). `now` is that time, in seconds since 1970, `s` the state, G the verification function of the
-- checker. Used by contracts.
use Rattle.std.specs.Prelude.{◌≡◌, ◌≢◌, ◌⊎◌, ℕ, List, Option, Some, None, Result, Ok, Err}
use Rattle.mls_nodes.specs.Requirements.{Requires}
use Rattle.mls_nodes.specs.declared.required_capabilities.RequiredCapabilities.{RequiredCapabilities}
use Rattle.mls_check.specs.Signatures.{VerifyFn}
use Rattle.mls_msgs.specs.declared.message.Message.{Message}
use Rattle.mls_apply.specs.RuleLists.{first_failing}
use Rattle.mls_apply.specs.declared.refusal.Refusal.{Refusal}
use Rattle.mls_apply.specs.declared.refusal.Refusal.TheVariants.{Malformed, OutOfMemory}
use Rattle.mls_follow.specs.State.{State, EncodesMessage}
use Rattle.mls_follow.specs.Acceptance.{EncodesNoMessage, IsAcceptable, IsNext}
use Rattle.mls_follow.specs.Lifetimes.{all_rules_at}
use Rattle.mls_follow.specs.Runs.{IsTransition}
use Rattle.mls_follow.specs.declared.taken.Taken.{Taken}

-- `IsAcceptableAt now G s bytes`: the bytes are the encoding of a message that satisfies every rule, 53 among them.
pub record IsAcceptableAt (now : Option ℕ) (G : VerifyFn) (s : State) (bytes : List ℕ) : Type 0 where
  pub message : Message
  pub encoded : EncodesMessage s.profile message bytes
  pub required : RequiredCapabilities
  pub requires : Requires s.context required
  pub rules_hold : first_failing (all_rules_at now G s required message) ≡ None

-- `FailsRuleAt now G s bytes e`: the bytes are the encoding of a message, and the first rule that it fails is that of this
-- refusal.
pub record FailsRuleAt (now : Option ℕ) (G : VerifyFn) (s : State) (bytes : List ℕ) (e : Refusal) : Type 0 where
  pub message : Message
  pub encoded : EncodesMessage s.profile message bytes
  pub required : RequiredCapabilities
  pub requires : Requires s.context required
  pub fails : first_failing (all_rules_at now G s required message) ≡ Some e

-- `IsFirstRefusalAt now G s bytes e`: the refusal of these bytes is Malformed, as they are the encoding of no message, or that
-- of the first rule that fails.
abbrev pub IsFirstRefusalAt : Option ℕ → VerifyFn → State → List ℕ → Refusal → Type 0
IsFirstRefusalAt now G s bytes e = ((e ≡ Malformed) × EncodesNoMessage s.profile bytes) ⊎ FailsRuleAt now G s bytes e

-- `IsTransitionAt now G s bytes result new`: `take_at` may return `result` and leave the state `new`. It accepts only what is
-- acceptable at this time, and moves to the next state. It refuses only for the first rule that fails, or if it runs out of
-- memory, and leaves the state unchanged.
abbrev pub IsTransitionAt : Option ℕ → VerifyFn → State → List ℕ → Result Taken Refusal → State → Type 0
IsTransitionAt now G s bytes (Ok taken) new =
    IsAcceptableAt now G s bytes × IsNext s bytes (record { taken = taken; state = new })
IsTransitionAt now G s bytes (Err e) new = (new ≡ s) × (e ≢ OutOfMemory → IsFirstRefusalAt now G s bytes e)

-- ---- theorems

-- What is accepted at a time is accepted without one. The next state has no part of the time.
abbrev pub TimedIsAccepted : Type 0
TimedIsAccepted = (now : Option ℕ) (G : VerifyFn) (s : State) (bytes : List ℕ) → IsAcceptableAt now G s bytes → IsAcceptable G s bytes

-- Without a time, what is answered is what is answered by the other rules.
abbrev pub WithoutTime : Type 0
WithoutTime =
    (G : VerifyFn) (s : State) (bytes : List ℕ) (answer : Result Taken Refusal) (new : State)
    → IsTransitionAt None G s bytes answer new → IsTransition G s bytes answer new
