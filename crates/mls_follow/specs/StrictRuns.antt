-- Fewer strict rules refuse less (own rule). `asked` and `more` are sets of strict rules, of which `more` has all of `asked`.
-- `s` is a state, and `with_rules s asked` the same state with these rules. Used by contracts.
use Rattle.std.specs.Prelude.{◌≡◌, ℕ, ◌≤◌, Bool, true, false, List, ◌∷◌, ◌++◌, Option, Some, None, option_map}
use Rattle.mls_nodes.specs.declared.required_capabilities.RequiredCapabilities.{RequiredCapabilities}
use Rattle.mls_check.specs.Signatures.{VerifyFn}
use Rattle.mls_msgs.specs.Rules.{has_rule, plain_rules}
use Rattle.mls_msgs.specs.StrictRules.{strict_number}
use Rattle.mls_msgs.specs.declared.message.Message.{Message}
use Rattle.mls_msgs.specs.declared.message.Message.TheVariants as messages
use Rattle.mls_msgs.specs.declared.public_message.PublicParts.{PublicParts}
use Rattle.mls_msgs.specs.declared.rules.Rules.{Rules}
use Rattle.mls_msgs.specs.declared.strict_rule.StrictRule.{StrictRule}
use Rattle.mls_msgs.specs.declared.strict_rule.StrictRule.TheVariants as rules
use Rattle.mls_strict.specs.ContentForms.{first_unmet}
use Rattle.mls_apply.specs.Refusals.{number_of}
use Rattle.mls_apply.specs.RuleLists.{first_failing}
use Rattle.mls_apply.specs.declared.refusal.Refusal.{Refusal}
use Rattle.mls_apply.specs.declared.refusal.Refusal.TheVariants as refusals
use Rattle.mls_follow.specs.Acceptance.{IsAcceptable, IsNext, IsFirstRefusal}
use Rattle.mls_follow.specs.MessageRules.{message_rules}
use Rattle.mls_follow.specs.NextState.{Transition, next}
use Rattle.mls_follow.specs.RisingRuns.{AcceptsAll}
use Rattle.mls_follow.specs.State.{State}
use Rattle.mls_follow.specs.StrictRules.{all_rules, last_strict_rules, message_strict_rules, strict_meets, supports_next}

-- `with_rules s asked` is the state `s` with these strict rules.
abbrev pub with_rules : State → Rules → State
with_rules s asked = record s { rules = asked }

-- `step_with_rules asked step` is the step to the state with these strict rules.
abbrev pub step_with_rules : Rules → Transition → Transition
step_with_rules asked step = record { taken = step.taken; state = with_rules step.state asked }

-- `Includes more asked`: the set `more` has each rule of the set `asked`.
abbrev pub Includes : Rules → Rules → Type 0
Includes more asked = (n : ℕ) → has_rule asked n ≡ true → has_rule more n ≡ true

-- `public_meets s p r`: the PublicMessage meets the strict rule: the next state does (51), or the message by itself.
abbrev pub public_meets : State → PublicParts → StrictRule → Bool
public_meets s p rules.GroupExtensionUnsupported = supports_next (next s (messages.Public p))
public_meets s p r = strict_meets s r p

-- `judged_strict_rules` are the strict rules for a message, by number.
abbrev pub judged_strict_rules : List StrictRule
judged_strict_rules = message_strict_rules ++ (rules.GroupExtensionUnsupported ∷ last_strict_rules)

-- `first_failed asked s m` is the first rule of the set that the message does not meet.
abbrev pub first_failed : Rules → State → Message → Option StrictRule
first_failed asked s (messages.Public p) = first_unmet asked (public_meets s p) judged_strict_rules
first_failed asked s (messages.Unread _ _) = None
first_failed asked s (messages.GroupInfo _) = None
first_failed asked s (messages.KeyPackage _) = None

-- `is_strict e`: the refusal is by a strict rule.
abbrev pub is_strict : Refusal → Bool
is_strict (refusals.Strict _) = true
is_strict _ = false

-- ---- theorems

-- Without strict rules the rules of the profile decide.
abbrev pub StrictIsPlain : Type 0
StrictIsPlain =
    (G : VerifyFn) (s : State) (required : RequiredCapabilities) (m : Message)
    → first_failing (all_rules G (with_rules s plain_rules) required m) ≡ first_failing (message_rules G s required m)

-- What the rules of the profile refuse is refused by the same rule, whichever strict rules there are.
abbrev pub PlainRefusalsStay : Type 0
PlainRefusalsStay =
    (G : VerifyFn) (s : State) (asked : Rules) (required : RequiredCapabilities) (m : Message) (e : Refusal)
    → first_failing (message_rules G s required m) ≡ Some e
    → first_failing (all_rules G (with_rules s asked) required m) ≡ Some e

-- What the rules of the profile accept is refused for the least rule of the set that the message does not meet, if there
-- is one. Which rules the message meets does not depend on the set.
abbrev pub LeastFailedRefuses : Type 0
LeastFailedRefuses =
    (G : VerifyFn) (s : State) (asked : Rules) (required : RequiredCapabilities) (m : Message)
    → first_failing (message_rules G s required m) ≡ None
    → first_failing (all_rules G (with_rules s asked) required m) ≡ option_map refusals.Strict (first_failed asked s m)

-- The next state is the same, but for the set.
abbrev pub NextKeepsRules : Type 0
NextKeepsRules =
    (s : State) (asked : Rules) (m : Message)
    → next (with_rules s asked) m ≡ option_map (step_with_rules asked) (next s m)

-- What is acceptable is acceptable to a follower with fewer rules, with the same next state.
abbrev pub FewerAccept : Type 0
FewerAccept =
    (G : VerifyFn) (s : State) (asked more : Rules) (bytes : List ℕ) → Includes more asked
    → IsAcceptable G (with_rules s more) bytes → IsAcceptable G (with_rules s asked) bytes

abbrev pub FewerStepAlike : Type 0
FewerStepAlike =
    (s : State) (asked more : Rules) (bytes : List ℕ) (step : Transition)
    → IsNext (with_rules s more) bytes step → IsNext (with_rules s asked) bytes (step_with_rules asked step)

-- What is refused is refused by a follower with more rules: for the same rule, if it is one of the profile; else for a
-- strict rule whose number is not greater.
abbrev pub MoreRefuse : Type 0
MoreRefuse =
    (G : VerifyFn) (s : State) (asked more : Rules) (bytes : List ℕ) (e : Refusal) → Includes more asked
    → IsFirstRefusal G (with_rules s asked) bytes e
    → (f : Refusal) × IsFirstRefusal G (with_rules s more) bytes f × (is_strict f ≡ is_strict e)
    × (is_strict e ≡ false → f ≡ e) × (number_of f ≤ number_of e)

-- What is refused for a rule that a follower with fewer rules has too is refused by it for this rule.
abbrev pub FewerRefuseAlike : Type 0
FewerRefuseAlike =
    (G : VerifyFn) (s : State) (asked more : Rules) (bytes : List ℕ) (r : StrictRule) → Includes more asked
    → has_rule asked (strict_number r) ≡ true → IsFirstRefusal G (with_rules s more) bytes (refusals.Strict r)
    → IsFirstRefusal G (with_rules s asked) bytes (refusals.Strict r)

-- Messages that are all acceptable, one after the other, are so to a follower with fewer rules, with the same states.
abbrev pub FewerAcceptAll : Type 0
FewerAcceptAll =
    (G : VerifyFn) (s new : State) (asked more : Rules) (messages : List (List ℕ)) → Includes more asked
    → AcceptsAll G (with_rules s more) messages (with_rules new more)
    → AcceptsAll G (with_rules s asked) messages (with_rules new asked)
