-- The strict rules for a message (own rule), which come after those of the profile. The rules 40 to 50 and 52 are for the
-- message by itself, in a group with this GroupContext; 51 is for the state after it. `s` is the state. Used by contracts.
use Rattle.std.specs.Prelude.{ℕ, ◌==◌, Bool, true, ◌&&◌, ◌||◌, not, List, [], ◌∷◌, ◌++◌, length, map, Option, Some, None}
use Rattle.mls_nodes.specs.declared.extension.Extension.{Extension}
use Rattle.mls_nodes.specs.declared.required_capabilities.RequiredCapabilities.{RequiredCapabilities}
use Rattle.mls_tree.specs.Tree.{Tree}
use Rattle.mls_hash.specs.SuiteHash.{hash_length}
use Rattle.mls_check.specs.LeafValidation.{all_leaves}
use Rattle.mls_check.specs.Signatures.{VerifyFn}
use Rattle.mls_msgs.specs.Rules.{has_rule}
use Rattle.mls_msgs.specs.StrictRules.{strict_number}
use Rattle.mls_msgs.specs.declared.message.Message.{Message}
use Rattle.mls_msgs.specs.declared.message.Message.TheVariants as messages
use Rattle.mls_msgs.specs.declared.public_message.PublicParts.{PublicParts}
use Rattle.mls_msgs.specs.declared.rules.Rules.{Rules}
use Rattle.mls_msgs.specs.declared.strict_rule.StrictRule.{StrictRule}
use Rattle.mls_msgs.specs.declared.strict_rule.StrictRule.TheVariants as rules
use Rattle.mls_strict.specs.ContentForms.{content_meets}
use Rattle.mls_strict.specs.LeafForms.{supports_all}
use Rattle.mls_apply.specs.RuleLists.{Rule, rule}
use Rattle.mls_apply.specs.declared.refusal.Refusal.{Refusal}
use Rattle.mls_apply.specs.declared.refusal.Refusal.TheVariants.{Strict}
use Rattle.mls_follow.specs.State.{State}
use Rattle.mls_follow.specs.MessageRules.{message_rules}
use Rattle.mls_follow.specs.NextState.{Transition, next}
use Rattle.mls_follow.specs.declared.taken.Taken.{Taken}
use Rattle.mls_follow.specs.declared.taken.Taken.TheVariants as takens

-- `tag_meets suite tag`: the tag, if there is one, has as many bytes as a hash of the suite (RFC 9420, 6.1, 6.2 and 17.1).
abbrev pub tag_meets : ℕ → Option (List ℕ) → Bool
tag_meets suite None = true
tag_meets suite (Some tag) = length tag == hash_length suite

-- `strict_meets s r m`: the PublicMessage by itself meets the strict rule: its confirmation tag and its membership tag do (40),
-- or its content does (41 to 50 and 52).
abbrev pub strict_meets : State → StrictRule → PublicParts → Bool
strict_meets s rules.TagLength m =
    tag_meets s.context.cipher_suite m.auth.confirmation_tag && tag_meets s.context.cipher_suite m.membership_tag
strict_meets s rules.GroupExtensionUnsupported m = true
strict_meets s r m = content_meets s.context r m.auth.content.content

-- `supports_extensions es t`: each non-blank leaf of the tree supports the types of the extensions (RFC 9420, 13.4).
abbrev pub supports_extensions : List Extension → Tree → Bool
supports_extensions es t = all_leaves (λ _ x. supports_all es x) 0 t

-- `supports_after taken new`: after a commit each non-blank leaf of the new tree supports the types of the new context's
-- extensions (RFC 9420, 12.1.7). A proposal changes neither.
abbrev pub supports_after : Taken → State → Bool
supports_after (takens.Proposal _) new = true
supports_after (takens.Commit _) new = supports_extensions new.context.extensions new.tree

-- `supports_next step`: `supports_after` of the next step, if there is one.
abbrev pub supports_next : Option Transition → Bool
supports_next None = true
supports_next (Some step) = supports_after step.taken step.state

-- `message_strict_rules` are the strict rules for a message by itself, 40 to 50, by number.
abbrev pub message_strict_rules : List StrictRule
message_strict_rules =
    rules.TagLength ∷ rules.ExtensionRepeated ∷ rules.ExtensionMisplaced ∷ rules.ExtensionUnreadable ∷ rules.KeyForm
    ∷ rules.CiphertextForm ∷ rules.GroupUnlisted ∷ rules.DefaultListed ∷ rules.LifetimeEmpty ∷ rules.CertificateKey
    ∷ rules.PskAhead ∷ []

-- `last_strict_rules` are those that come after 51.
abbrev pub last_strict_rules : List StrictRule
last_strict_rules = rules.PointOffCurve ∷ []

-- `strict_rule s m r` is the rule that the PublicMessage by itself meets the strict rule, if the state has it.
abbrev pub strict_rule : State → PublicParts → StrictRule → Rule Refusal
strict_rule s m r = rule (Strict r) (not (has_rule s.rules (strict_number r)) || strict_meets s r m)

-- `support_rules asked supported` is the rule 51, if the set has it: `supported` says whether it is met.
abbrev pub support_rules : Rules → Bool → List (Rule Refusal)
support_rules asked supported =
    rule (Strict rules.GroupExtensionUnsupported)
    (not (has_rule asked (strict_number rules.GroupExtensionUnsupported)) || supported) ∷ []

-- `strict_rules s m` is the strict rules for a message, by number: 40 to 50, then 51 for the next state, and 52. No other rule
-- is left for a message that is no PublicMessage.
abbrev pub strict_rules : State → Message → List (Rule Refusal)
strict_rules s (messages.Public m) =
    map (strict_rule s m) message_strict_rules
    ++ (support_rules s.rules (supports_next (next s (messages.Public m))) ++ map (strict_rule s m) last_strict_rules)
strict_rules s (messages.Unread _ _) = []
strict_rules s (messages.GroupInfo _) = []
strict_rules s (messages.KeyPackage _) = []

-- `all_rules G s required m` is the rules for a message: those of the profile, and then the strict ones.
abbrev pub all_rules : VerifyFn → State → RequiredCapabilities → Message → List (Rule Refusal)
all_rules G s required m = message_rules G s required m ++ strict_rules s m
