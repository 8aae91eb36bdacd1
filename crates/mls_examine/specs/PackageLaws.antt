-- What holds of good KeyPackages and of the reasons why one is not good. Used by contracts.
use Rattle.std.specs.Prelude.{◌≡◌, ◌≢◌, ◌⊎◌, ◌↔◌, ◌<◌, ℕ, List, [], All, true, Some}
use Rattle.mls_nodes.specs.declared.context.GroupContext.{GroupContext}
use Rattle.mls_nodes.specs.declared.leaf.LeafNode.{LeafNode}
use Rattle.mls_nodes.specs.declared.required_capabilities.RequiredCapabilities.{RequiredCapabilities}
use Rattle.mls_tree.specs.Tree.{leaf}
use Rattle.mls_check.specs.LeafValidation.{all_leaves, credential_type, member_rule, supports_credential, supports_own_extensions}
use Rattle.mls_check.specs.Signatures.{Extends, VerifyFn}
use Rattle.mls_msgs.specs.declared.key_package.KeyPackage.{KeyPackage}
use Rattle.mls_msgs.specs.declared.rules.Rules.{Rules}
use Rattle.mls_apply.specs.ProposalRules.{is_valid_add}
use Rattle.mls_signatures.specs.declared.signature_to_verify.SignatureToVerify.{SignatureToVerify}
use Rattle.mls_examine.specs.Packages.{IsFactsOf, IsGoodPackage, IsUnfitPackage, is_accepted}
use Rattle.mls_examine.specs.declared.package_check.PackageFacts.{PackageFacts}
use Rattle.mls_examine.specs.declared.unfit.Unfit.{Unfit}
use Rattle.mls_examine.specs.declared.unfit.Unfit.TheVariants as unfit

-- `AcceptsEach G qs`: `G` accepts each of these signatures.
abbrev pub AcceptsEach : VerifyFn → List SignatureToVerify → Type 0
AcceptsEach G qs = All (λ q. is_accepted G q ≡ true) qs

-- `no_requirements` requires nothing of a member.
abbrev pub no_requirements : RequiredCapabilities
no_requirements = record { extensions = []; proposals = []; credentials = [] }

-- ---- theorems

-- A KeyPackage is good, or there is a reason why it is not, other than out of memory.
abbrev pub PackageOrFault : Type 0
PackageOrFault =
    (G : VerifyFn) (asked : Rules) (k : KeyPackage)
    → IsGoodPackage G asked k ⊎ ((e : Unfit) × (e ≢ unfit.OutOfMemory) × IsUnfitPackage G asked k e)

-- A KeyPackage for which there is a reason is not good.
abbrev pub NoFaultOfGood : Type 0
NoFaultOfGood =
    (G : VerifyFn) (asked : Rules) (k : KeyPackage) (e : Unfit)
    → IsUnfitPackage G asked k e → ¬ (IsGoodPackage G asked k)

-- There is at most one reason.
abbrev pub PackageFaultIsUnique : Type 0
PackageFaultIsUnique =
    (G : VerifyFn) (asked : Rules) (k : KeyPackage) (e f : Unfit)
    → IsUnfitPackage G asked k e → IsUnfitPackage G asked k f → e ≡ f

-- A good KeyPackage is good under each checker that accepts more signatures.
abbrev pub GoodPackagesStay : Type 0
GoodPackagesStay =
    (G K : VerifyFn) (asked : Rules) (k : KeyPackage)
    → Extends G K → IsGoodPackage G asked k → IsGoodPackage K asked k

-- A good KeyPackage is valid in an Add, in each group of its version and its cipher suite (RFC 9420, 12.1.1).
abbrev pub GoodPackagesCanBeAdded : Type 0
GoodPackagesCanBeAdded =
    (G : VerifyFn) (asked : Rules) (k : KeyPackage) (context : GroupContext)
    → context.version ≡ k.version → context.cipher_suite ≡ k.cipher_suite
    → IsGoodPackage G asked k → is_valid_add G context k ≡ true

-- The facts of a KeyPackage depend on it alone.
abbrev pub PackageFactsAreUnique : Type 0
PackageFactsAreUnique =
    (k : KeyPackage) (facts other : PackageFacts) → IsFactsOf k facts → IsFactsOf k other → facts ≡ other

-- If signatures are the reason, the KeyPackage is good under each checker that accepts these, and what the first one accepts.
abbrev pub CoveredPackagesAreGood : Type 0
CoveredPackagesAreGood =
    (G K : VerifyFn) (asked : Rules) (k : KeyPackage) (qs : List SignatureToVerify)
    → IsUnfitPackage G asked k (unfit.Unsigned qs) → Extends G K → AcceptsEach K qs → IsGoodPackage K asked k

-- In the tree of one leaf node alone, in a group that requires nothing, the rules of leaf validation except that for its
-- signature hold if and only if its capabilities list the types of its extensions and of its credential (RFC 9420, 7.3).
abbrev pub LoneLeavesAreValid : Type 0
LoneLeavesAreValid =
    (G : VerifyFn) (suite : ℕ) (group_id : List ℕ) (x : LeafNode)
    → ((rule : ℕ) → rule < 5
    → all_leaves (member_rule G suite group_id no_requirements (leaf (Some x)) rule) 0 (leaf (Some x)) ≡ true)
    ↔ ((supports_own_extensions x ≡ true) × (supports_credential x (credential_type x.credential) ≡ true))
