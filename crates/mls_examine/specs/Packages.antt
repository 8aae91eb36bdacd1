-- Whether a KeyPackage is good by itself, without a group (RFC 9420, 7.3 and 10.1), and otherwise why it is not. G is the
-- verification function of a checker, `asked` a set of strict rules. What the credential stands for is not judged, and
-- the lifetime is returned, not judged. Used by contracts.
use Rattle.std.specs.Prelude.{◌≡◌, ◌==◌, ◌&&◌, ◌++◌, ℕ, Bool, true, false, not, is_some, List, [], ◌∷◌, filter, Option, Some, None}
use Rattle.std.specs.Str.{bytes_eq}
use Rattle.mls_hash.specs.Suites.{is_supported}
use Rattle.mls_nodes.specs.declared.leaf_source.Lifetime.{Lifetime}
use Rattle.mls_nodes.specs.declared.leaf_source.LeafSource.{LeafSource}
use Rattle.mls_nodes.specs.declared.leaf_source.LeafSource.TheVariants as sources
use Rattle.mls_check.specs.LeafValidation.{credential_type, is_leaf_signed, supports_credential, supports_own_extensions}
use Rattle.mls_check.specs.Signatures.{VerifyFn}
use Rattle.mls_check.specs.declared.members.MemberFault.TheVariants as members
use Rattle.mls_msgs.specs.declared.key_package.KeyPackage.{KeyPackage}
use Rattle.mls_msgs.specs.declared.rules.Rules.{Rules}
use Rattle.mls_msgs.specs.declared.strict_rule.StrictRule.{StrictRule}
use Rattle.mls_strict.specs.ContentForms.{package_refusal}
use Rattle.mls_apply.specs.PackageRefs.{package_ref}
use Rattle.mls_apply.specs.ProposalRules.{is_from_key_package, is_package_signed}
use Rattle.mls_apply.specs.RuleLists.{Rule, rule, first_failing}
use Rattle.mls_signatures.specs.SignaturesToVerify.{key_package_signatures}
use Rattle.mls_signatures.specs.declared.signature_to_verify.SignatureToVerify.{SignatureToVerify}
use Rattle.mls_examine.specs.declared.package_check.PackageFacts.{PackageFacts}
use Rattle.mls_examine.specs.declared.unfit.Unfit.{Unfit}
use Rattle.mls_examine.specs.declared.unfit.Unfit.TheVariants as unfit

-- The version of the protocol that is supported (RFC 9420, 6): mls10.
abbrev pub supported_version : ℕ
supported_version = 1

-- `form_rules k` is the rules of 10.1 and 7.3 that ask nothing of signatures: version and cipher suite are supported, the
-- leaf node is one of a KeyPackage, the init key is not its encryption key, and in the tree of this one leaf its
-- capabilities list the types of its extensions and of its credential.
abbrev pub form_rules : KeyPackage → List (Rule Unfit)
form_rules k =
    rule unfit.WrongVersion (k.version == supported_version)
    ∷ rule unfit.WrongSuite (is_supported k.cipher_suite)
    ∷ rule unfit.LeafSource (is_from_key_package k.leaf_node.source)
    ∷ rule unfit.InitKeyReused (not (bytes_eq k.init_key k.leaf_node.encryption_key))
    ∷ rule (unfit.Member (members.ExtensionUnlisted 0)) (supports_own_extensions k.leaf_node)
    ∷ rule (unfit.Member (members.CredentialUnsupported 0))
    (supports_credential k.leaf_node (credential_type k.leaf_node.credential))
    ∷ []

-- `strict_rules unmet` is the rule by which a package breaks a strict rule, if it does.
abbrev pub strict_rules : Option StrictRule → List (Rule Unfit)
strict_rules None = []
strict_rules (Some r) = rule (unfit.Strict r) false ∷ []

-- `package_fault asked k` is why the package is not good, whatever its signatures are: the first of these rules that fails,
-- then the first strict rule of the set that it does not meet by itself, then that it has no encoding.
unfoldable pub package_fault : Rules → KeyPackage → Option Unfit
package_fault asked k =
    first_failing (form_rules k ++ (strict_rules (package_refusal asked k.cipher_suite k.version k)
    ++ rule unfit.Malformed (is_some (package_ref k)) ∷ []))

-- `is_signed G k`: the signatures of the leaf node and of the package are good (RFC 9420, 7.2 and 10.1). What the leaf node of
-- a KeyPackage signs has no group id and no leaf index.
abbrev pub is_signed : VerifyFn → KeyPackage → Bool
is_signed G k =
    is_leaf_signed G k.cipher_suite [] 0 k.leaf_node && is_package_signed G k.cipher_suite k

-- `is_accepted G q`: `G` accepts the signature.
abbrev pub is_accepted : VerifyFn → SignatureToVerify → Bool
is_accepted G q = G q.suite q.key q.content q.signature

-- `unsigned G k` is the signatures of the package that `G` does not accept: that of its leaf node, then its own.
abbrev pub unsigned : VerifyFn → KeyPackage → List SignatureToVerify
unsigned G k = filter (λ q. not (is_accepted G q)) (key_package_signatures k)

-- `IsGoodPackage G asked k`: the package is good by itself.
pub record IsGoodPackage (G : VerifyFn) (asked : Rules) (k : KeyPackage) : Type 0 where
  pub no_fault : package_fault asked k ≡ None
  pub signed : is_signed G k ≡ true

-- `IsUnfitPackage G asked k e`: this is the first reason for which the package is not good. Signatures are asked last, and
-- those that are not good are listed.
abbrev pub IsUnfitPackage : VerifyFn → Rules → KeyPackage → Unfit → Type 0
IsUnfitPackage G asked k (unfit.Unsigned qs) =
    (package_fault asked k ≡ None) × (is_signed G k ≡ false) × (qs ≡ unsigned G k)
IsUnfitPackage G asked k e = package_fault asked k ≡ Some e

-- `lifetime_of s` is the lifetime that the source of a leaf node has, if it is one of a KeyPackage (RFC 9420, 7.2).
abbrev pub lifetime_of : LeafSource → Option Lifetime
lifetime_of (sources.KeyPackage lifetime) = Some lifetime
lifetime_of sources.Update = None
lifetime_of (sources.Commit _) = None

-- `IsFactsOf k facts`: the KeyPackageRef of the package (RFC 9420, 5.2), its cipher suite, and the lifetime of its leaf node.
pub record IsFactsOf (k : KeyPackage) (facts : PackageFacts) : Type 0 where
  pub reference : package_ref k ≡ Some facts.reference
  pub suite : facts.cipher_suite ≡ k.cipher_suite
  pub lifetime : lifetime_of k.leaf_node.source ≡ Some facts.lifetime
