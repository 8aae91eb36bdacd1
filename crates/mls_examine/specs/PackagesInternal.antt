-- The rules of a KeyPackage that its leaf node must satisfy besides its signature. Internal: no public contract uses this.
use Rattle.std.specs.Prelude.{not, List, [], ◌∷◌}
use Rattle.std.specs.Str.{bytes_eq}
use Rattle.mls_check.specs.LeafValidation.{credential_type, supports_credential, supports_own_extensions}
use Rattle.mls_check.specs.declared.members.MemberFault.TheVariants as members
use Rattle.mls_msgs.specs.declared.key_package.KeyPackage.{KeyPackage}
use Rattle.mls_apply.specs.ProposalRules.{is_from_key_package}
use Rattle.mls_apply.specs.RuleLists.{Rule, rule}
use Rattle.mls_examine.specs.declared.unfit.Unfit.{Unfit}
use Rattle.mls_examine.specs.declared.unfit.Unfit.TheVariants as unfit

-- `leaf_node_rules k` is the rules of `form_rules k` from the third on.
abbrev pub leaf_node_rules : KeyPackage → List (Rule Unfit)
leaf_node_rules k =
    rule unfit.LeafSource (is_from_key_package k.leaf_node.source)
    ∷ rule unfit.InitKeyReused (not (bytes_eq k.init_key k.leaf_node.encryption_key))
    ∷ rule (unfit.Member (members.ExtensionUnlisted 0)) (supports_own_extensions k.leaf_node)
    ∷ rule (unfit.Member (members.CredentialUnsupported 0))
    (supports_credential k.leaf_node (credential_type k.leaf_node.credential))
    ∷ []
