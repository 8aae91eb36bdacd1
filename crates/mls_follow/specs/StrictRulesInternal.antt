-- The rule after those of the profile for which a message is refused, step by step. Internal: no public contract uses this.
use Rattle.std.specs.Prelude.{◌≡◌, ◌≢◌, ◌⊎◌, ℕ, Bool, true, false, if◌then◌else◌, List, ◌++◌, Option, Some, None, option_map}
use Rattle.mls_nodes.specs.declared.extension.Extension.{Extension}
use Rattle.mls_tree.specs.Tree.{Tree}
use Rattle.mls_tree.specs.TreeHash.{tree_hash}
use Rattle.mls_hash.specs.SuiteHash.{hash_of}
use Rattle.mls_msgs.specs.declared.message.Message.TheVariants as messages
use Rattle.mls_msgs.specs.declared.public_message.PublicParts.{PublicParts}
use Rattle.mls_msgs.specs.declared.rules.Rules.{Rules}
use Rattle.mls_msgs.specs.declared.strict_rule.StrictRule.{StrictRule}
use Rattle.mls_msgs.specs.declared.strict_rule.StrictRule.TheVariants as rules
use Rattle.mls_nodes.specs.declared.context.GroupContext.{GroupContext}
use Rattle.mls_strict.specs.ContentForms.{first_unmet}
use Rattle.mls_apply.specs.ContextExtensions.{new_extensions}
use Rattle.mls_apply.specs.RuleLists.{first_failing}
use Rattle.mls_apply.specs.declared.list_item.ListItem.{ListItem}
use Rattle.mls_apply.specs.declared.refusal.Refusal.{Refusal}
use Rattle.mls_apply.specs.declared.refusal.Refusal.TheVariants.{OutOfMemory, Strict, LifetimeOutside}
use Rattle.mls_follow.specs.Lifetimes.{lifetime_rules}
use Rattle.mls_follow.specs.State.{State}
use Rattle.mls_follow.specs.NextState.{Transition}
use Rattle.mls_follow.specs.StrictRules.{last_strict_rules, message_strict_rules, strict_meets, support_rules, supports_extensions, supports_next}

-- `unmet_rule s m` is the first strict rule of the state, but for 51, that the PublicMessage does not meet by itself.
unfoldable pub unmet_rule : State → PublicParts → Option StrictRule
unmet_rule s m = first_unmet s.rules (λ r. strict_meets s r m) (message_strict_rules ++ last_strict_rules)

-- `or_then first later` is `first`, or `later` if that is `None`.
abbrev pub or_then : Option Refusal → Option Refusal → Option Refusal
or_then None later = later
or_then (Some e) later = Some e

-- `late_rule now s m` is the refusal by the first rule after those of the profile that the PublicMessage does not meet by itself:
-- a strict one of the state, but for 51, or that for lifetimes at the time `now`.
unfoldable pub late_rule : Option ℕ → State → PublicParts → Option Refusal
late_rule now s m = or_then (option_map Strict (unmet_rule s m)) (first_failing (lifetime_rules now (messages.Public m)))

-- `comes_last e`: the rule of this refusal comes after 51.
abbrev pub comes_last : Refusal → Bool
comes_last (Strict rules.PointOffCurve) = true
comes_last LifetimeOutside = true
comes_last e = false

-- `support_refusal asked unmet supported` is the refusal by the first rule after those of the profile that fails, if `unmet` is
-- that by the first but for 51, and `supported` says whether 51 is met.
abbrev pub support_refusal : Rules → Option Refusal → Bool → Option Refusal
support_refusal asked None supported = first_failing (support_rules asked supported)
support_refusal asked (Some e) supported =
    if comes_last e then or_then (first_failing (support_rules asked supported)) (Some e) else Some e

-- `late_refusal asked unmet after` is the refusal by the first rule after those of the profile that fails, by the next step.
abbrev pub late_refusal : Rules → Option Refusal → Option Transition → Option Refusal
late_refusal asked unmet after = support_refusal asked unmet (supports_next after)

-- `commit_late_refusal asked unmet es t` is that of a commit that leads to the tree `t` and to these extensions.
abbrev pub commit_late_refusal : Rules → Option Refusal → List Extension → Tree → Option Refusal
commit_late_refusal asked unmet es t = support_refusal asked unmet (supports_extensions es t)

-- `ChangesTo context changed t`: `t` is the tree after a commit, and it has a tree hash (RFC 9420, 7.8).
pub record ChangesTo (context : GroupContext) (changed : Option Tree) (t : Tree) : Type 0 where
  pub made : changed ≡ Some t
  pub hash : List ℕ
  pub hashed : tree_hash (hash_of context.cipher_suite) 0 t ≡ Some hash

-- `RefusesCommit context asked unmet items failing changed e`: a commit with this list, in a group with this context, is
-- refused for the first rule that fails. `failing` is the refusal of the first rule of the profile that does; if none does,
-- `changed` is the tree after the commit, of which the later rules are asked. `OutOfMemory` says nothing.
abbrev pub RefusesCommit : GroupContext → Rules → Option Refusal → List ListItem → Option Refusal → Option Tree → Refusal
    → Type 0
RefusesCommit context asked unmet items failing changed e =
    e ≢ OutOfMemory → (failing ≡ Some e)
    ⊎ ((failing ≡ None) × ((t : Tree) × ChangesTo context changed t
    × (commit_late_refusal asked unmet (new_extensions context.extensions items) t ≡ Some e)))
