-- Whether a group that is followed can add a client by its KeyPackage, with a commit of this one Add (RFC 9420, 7.3, 10.1, 12.1.1
-- and 12.4.2), and otherwise why not. G is the verification function of a checker, `s` the state. What the credential
-- stands for is not judged, and the lifetime is returned, not judged. Used by contracts.
use Rattle.std.specs.Prelude.{◌≡◌, ◌==◌, ◌++◌, nat_lt, Bool, true, false, not, is_some, List, [], ◌∷◌, map, Option, Some, None}
use Rattle.std.specs.Str.{bytes_eq}
use Rattle.mls_nodes.specs.Requirements.{Requires}
use Rattle.mls_nodes.specs.declared.context.GroupContext.{GroupContext}
use Rattle.mls_nodes.specs.declared.required_capabilities.RequiredCapabilities.{RequiredCapabilities}
use Rattle.mls_check.specs.Signatures.{VerifyFn}
use Rattle.mls_msgs.specs.declared.key_package.KeyPackage.{KeyPackage}
use Rattle.mls_msgs.specs.declared.rules.Rules.{Rules}
use Rattle.mls_msgs.specs.declared.strict_rule.StrictRule.{StrictRule}
use Rattle.mls_msgs.specs.declared.strict_rule.StrictRule.TheVariants as rules
use Rattle.mls_strict.specs.ContentForms.{first_unmet, package_meets}
use Rattle.mls_strict.specs.LeafForms.{supports_all}
use Rattle.mls_apply.specs.PackageRefs.{package_ref}
use Rattle.mls_apply.specs.ProposalRules.{is_from_key_package}
use Rattle.mls_apply.specs.RuleLists.{Rule, rule, first_failing}
use Rattle.mls_signatures.specs.declared.signature_to_verify.SignatureToVerify.{SignatureToVerify}
use Rattle.mls_follow.specs.LoneAdd.{lone_add_rules, with_client}
use Rattle.mls_follow.specs.State.{State, last_epoch}
use Rattle.mls_follow.specs.declared.lone_add.AddFault.{AddFault}
use Rattle.mls_follow.specs.declared.lone_add.AddFault.TheVariants as adds
use Rattle.mls_examine.specs.Packages.{is_signed, strict_rules, unsigned}
use Rattle.mls_examine.specs.declared.unfit.Unfit.{Unfit}
use Rattle.mls_examine.specs.declared.unfit.Unfit.TheVariants as unfit

-- `group_package_meets context r k`: the KeyPackage meets the strict rule in a group with this GroupContext. It does by 51 if its
-- leaf node supports the types of the context's extensions (RFC 9420, 13.4).
abbrev pub group_package_meets : GroupContext → StrictRule → KeyPackage → Bool
group_package_meets context rules.GroupExtensionUnsupported k = supports_all context.extensions k.leaf_node
group_package_meets context r k = package_meets context.version context.cipher_suite r k

-- `group_package_rules` are the strict rules for a KeyPackage in a group, in the order in which a fault is named: those for a
-- KeyPackage by itself, with 51 before 52.
abbrev pub group_package_rules : List StrictRule
group_package_rules =
    rules.ExtensionRepeated ∷ rules.ExtensionMisplaced ∷ rules.ExtensionUnreadable ∷ rules.KeyForm ∷ rules.CiphertextForm
    ∷ rules.GroupUnlisted ∷ rules.DefaultListed ∷ rules.LifetimeEmpty ∷ rules.CertificateKey ∷ rules.PskAhead
    ∷ rules.GroupExtensionUnsupported ∷ rules.PointOffCurve ∷ []

-- `group_package_refusal asked context k` is the first strict rule of the set that the KeyPackage does not meet in a group with
-- this GroupContext.
unfoldable pub group_package_refusal : Rules → GroupContext → KeyPackage → Option StrictRule
group_package_refusal asked context k = first_unmet asked (λ r. group_package_meets context r k) group_package_rules

-- `fit_rules s k` is the rules of a KeyPackage that ask nothing of the tree: the group is not over (RFC 9420, 11.2), its epoch
-- has a next one, the version and the cipher suite are the group's, the leaf node is one of a KeyPackage, and the init key is
-- not its encryption key (7.3 and 10.1).
abbrev pub fit_rules : State → KeyPackage → List (Rule Unfit)
fit_rules s k =
    rule unfit.GroupOver (not s.ended)
    ∷ rule unfit.LastEpoch (nat_lt s.context.epoch last_epoch)
    ∷ rule unfit.WrongVersion (k.version == s.context.version)
    ∷ rule unfit.WrongSuite (k.cipher_suite == s.context.cipher_suite)
    ∷ rule unfit.LeafSource (is_from_key_package k.leaf_node.source)
    ∷ rule unfit.InitKeyReused (not (bytes_eq k.init_key k.leaf_node.encryption_key))
    ∷ []

-- `unfit_add f` is the reason of a fault of the tree after the Add.
abbrev pub unfit_add : AddFault → Unfit
unfit_add adds.TooManyLeaves = unfit.TooManyLeaves
unfit_add adds.KeyRepeated = unfit.KeyRepeated
unfit_add (adds.Member fault) = unfit.Member fault
unfit_add adds.OutOfMemory = unfit.OutOfMemory

-- `unfit_add_rules rs` is rules for the tree after the Add, by the reasons for which they fail.
abbrev pub unfit_add_rules : List (Rule AddFault) → List (Rule Unfit)
unfit_add_rules rs = map (λ r. rule (unfit_add r.refusal) r.holds) rs

-- `form_rules_in s k` is the last rules of a KeyPackage: it meets the strict rules of the state, and it has an encoding.
abbrev pub form_rules_in : State → KeyPackage → List (Rule Unfit)
form_rules_in s k =
    strict_rules (group_package_refusal s.rules s.context k) ++ rule unfit.Malformed (is_some (package_ref k)) ∷ []

-- `group_rules s required k` is the rules of a KeyPackage in a group that requires `required`, but for its signatures: it fits
-- the group, the tree after its Add satisfies its rules, it meets the strict rules, and it has an encoding.
abbrev pub group_rules : State → RequiredCapabilities → KeyPackage → List (Rule Unfit)
group_rules s required k =
    fit_rules s k ++ (unfit_add_rules (lone_add_rules s required (with_client s k)) ++ form_rules_in s k)

-- `addable_fault s required k` is why the client cannot be added, whatever the signatures of the KeyPackage are: the first of
-- these rules that fails.
unfoldable pub addable_fault : State → RequiredCapabilities → KeyPackage → Option Unfit
addable_fault s required k = first_failing (group_rules s required k)

-- `IsAddable G s k`: the client can be added. No rule fails, under what the group requires, and the signatures are good.
pub record IsAddable (G : VerifyFn) (s : State) (k : KeyPackage) : Type 0 where
  pub required : RequiredCapabilities
  pub requires : Requires s.context required
  pub no_fault : addable_fault s required k ≡ None
  pub signed : is_signed G k ≡ true

-- `IsUnsignedIn G s k qs`: only signatures keep the client from being added, and these are not good.
pub record IsUnsignedIn (G : VerifyFn) (s : State) (k : KeyPackage) (qs : List SignatureToVerify) : Type 0 where
  pub required : RequiredCapabilities
  pub requires : Requires s.context required
  pub no_fault : addable_fault s required k ≡ None
  pub not_signed : is_signed G k ≡ false
  pub signatures : qs ≡ unsigned G k

-- `IsUnaddable G s k e`: this is the first reason for which the client cannot be added. Signatures are asked last, and those
-- that are not good are listed. What the group of a follower requires can always be read.
abbrev pub IsUnaddable : VerifyFn → State → KeyPackage → Unfit → Type 0
IsUnaddable G s k (unfit.Unsigned qs) = IsUnsignedIn G s k qs
IsUnaddable G s k e =
    (required : RequiredCapabilities) → Requires s.context required → addable_fault s required k ≡ Some e
