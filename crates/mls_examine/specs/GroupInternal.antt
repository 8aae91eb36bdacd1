-- What the steps of an examination return. Internal: no public contract uses this.
use Rattle.std.specs.Prelude.{◌≡◌, ◌||◌, not, if◌then◌else◌, Bool, true, false, Option, Some, None}
use Rattle.mls_nodes.specs.declared.context.GroupContext.{GroupContext}
use Rattle.mls_check.specs.Signatures.{VerifyFn}
use Rattle.mls_msgs.specs.Rules.{has_rule}
use Rattle.mls_msgs.specs.declared.key_package.KeyPackage.{KeyPackage}
use Rattle.mls_msgs.specs.declared.rules.Rules.{Rules}
use Rattle.mls_msgs.specs.declared.strict_rule.StrictRule.{StrictRule}
use Rattle.mls_msgs.specs.declared.strict_rule.StrictRule.TheVariants as rules
use Rattle.mls_strict.specs.LeafForms.{supports_all}
use Rattle.mls_apply.specs.RuleLists.{first_failing}
use Rattle.mls_follow.specs.State.{State}
use Rattle.mls_examine.specs.AddablePackages.{form_rules_in}
use Rattle.mls_examine.specs.Packages.{is_signed, unsigned}
use Rattle.mls_examine.specs.declared.unfit.Unfit.{Unfit}
use Rattle.mls_examine.specs.declared.unfit.Unfit.TheVariants as unfit

-- `comes_last r`: the strict rule comes after 51.
abbrev pub comes_last : StrictRule → Bool
comes_last rules.PointOffCurve = true
comes_last r = false

-- `unsupported met` is the strict rule 51, unless it is met.
abbrev pub unsupported : Bool → Option StrictRule
unsupported true = None
unsupported false = Some rules.GroupExtensionUnsupported

-- `with_support unmet met` is the first strict rule that a KeyPackage does not meet in a group: `unmet` is the first that it does
-- not meet by itself, and `met` says whether it meets 51. Only 52 comes after 51.
abbrev pub with_support : Option StrictRule → Bool → Option StrictRule
with_support None met = unsupported met
with_support (Some r) met = if not (comes_last r) || met then Some r else Some rules.GroupExtensionUnsupported

-- `supports_group asked context k`: if the set has strict rule 51, the leaf node supports the types of the context's extensions (RFC
-- 9420, 13.4).
abbrev pub supports_group : Rules → GroupContext → KeyPackage → Bool
supports_group asked context k = not (has_rule asked 51) || supports_all context.extensions k.leaf_node

-- `IsUnfitForm G s k e`: this is the first reason of the last rules of a KeyPackage, or of its signatures, for which the client
-- cannot be added.
abbrev pub IsUnfitForm : VerifyFn → State → KeyPackage → Unfit → Type 0
IsUnfitForm G s k (unfit.Unsigned qs) =
    (first_failing (form_rules_in s k) ≡ None) × (is_signed G k ≡ false) × (qs ≡ unsigned G k)
IsUnfitForm G s k e = first_failing (form_rules_in s k) ≡ Some e
