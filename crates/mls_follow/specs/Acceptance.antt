-- Which messages a follower accepts, and the first rule that a refused one fails. `s` is the state, G the verification
-- function of the checker. Used by contracts.
use Rattle.std.specs.Prelude.{◌≡◌, ◌⊎◌, ℕ, List, Some, None, IsSome}
use Rattle.mls_nodes.specs.declared.context.GroupContext.{GroupContext}
use Rattle.mls_nodes.specs.declared.required_capabilities.RequiredCapabilities.{RequiredCapabilities}
use Rattle.mls_check.specs.Signatures.{VerifyFn}
use Rattle.mls_msgs.specs.declared.message.Message.{Message}
use Rattle.mls_msgs.specs.declared.message.Message.TheVariants as messages
use Rattle.mls_msgs.specs.declared.profile.Profile.{Profile}
use Rattle.mls_msgs.specs.declared.public_message.PublicParts.{PublicParts}
use Rattle.mls_apply.specs.RuleLists.{first_failing}
use Rattle.mls_apply.specs.declared.refusal.Refusal.{Refusal}
use Rattle.mls_apply.specs.declared.refusal.Refusal.TheVariants.{Malformed}
use Rattle.mls_nodes.specs.Requirements.{Requires}
use Rattle.mls_follow.specs.State.{State, EncodesMessage, HasEncoding}
use Rattle.mls_follow.specs.MessageRules.{reference_of}
use Rattle.mls_follow.specs.NextState.{Transition, next}
use Rattle.mls_follow.specs.StrictRules.{all_rules}

-- `IsAcceptable G s bytes`: the bytes are the encoding of a message that satisfies every rule (RFC 9420, 6, 12.1 to
-- 12.4).
pub record IsAcceptable (G : VerifyFn) (s : State) (bytes : List ℕ) : Type 0 where
  pub message : Message
  pub encoded : EncodesMessage s.profile message bytes
  pub required : RequiredCapabilities
  pub requires : Requires s.context required
  pub rules_hold : first_failing (all_rules G s required message) ≡ None

-- `IsNext s bytes step`: the step is the one after the message of these bytes.
pub record IsNext (s : State) (bytes : List ℕ) (step : Transition) : Type 0 where
  pub message : Message
  pub encoded : EncodesMessage s.profile message bytes
  pub after : next s message ≡ Some step

-- `FailsRule G s bytes e`: the bytes are the encoding of a message, and the first rule that it fails is that of this
-- refusal.
pub record FailsRule (G : VerifyFn) (s : State) (bytes : List ℕ) (e : Refusal) : Type 0 where
  pub message : Message
  pub encoded : EncodesMessage s.profile message bytes
  pub required : RequiredCapabilities
  pub requires : Requires s.context required
  pub fails : first_failing (all_rules G s required message) ≡ Some e

-- `EncodesNoMessage profile bytes`: the bytes are the encoding of no message in the profile.
abbrev pub EncodesNoMessage : Profile → List ℕ → Type 0
EncodesNoMessage profile bytes = (m : Message) → EncodesMessage profile m bytes → ⊥

-- `IsFirstRefusal G s bytes e`: the refusal of these bytes is Malformed, as they are the encoding of no message, or
-- that of the first rule that fails.
abbrev pub IsFirstRefusal : VerifyFn → State → List ℕ → Refusal → Type 0
IsFirstRefusal G s bytes e = ((e ≡ Malformed) × EncodesNoMessage s.profile bytes) ⊎ FailsRule G s bytes e

-- Each PublicMessage within the limit of an input has a reference (RFC 9420, 5.2).
abbrev pub ReferencesExist : Type 0
ReferencesExist =
    (profile : Profile) (context : GroupContext) (m : PublicParts) → HasEncoding profile (messages.Public m)
    → IsSome (reference_of context m.auth)
