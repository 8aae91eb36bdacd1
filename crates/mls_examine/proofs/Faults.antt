-- The reasons for which a KeyPackage is not good: what each rule says if none fails, and which reasons are no rule's.
use Rattle.std.proofs.Common.{◌≡◌, ◌∙◌, ◌⊎◌, List, [], ◌∷◌, ◌++◌, Bool, true, false, Option, Some, None, refl, sym, ap, inl, inr}
use Rattle.std.specs.Prelude.{ℕ, ◌==◌, is_some}
use Rattle.mls_hash.specs.Suites.{is_supported}
use Rattle.mls_check.specs.Signatures.{VerifyFn}
use Rattle.mls_msgs.specs.declared.key_package.KeyPackage.{KeyPackage}
use Rattle.mls_msgs.specs.declared.rules.Rules.{Rules}
use Rattle.mls_msgs.specs.declared.strict_rule.StrictRule.{StrictRule}
use Rattle.mls_strict.specs.ContentForms.{package_refusal}
use Rattle.mls_apply.specs.PackageRefs.{package_ref}
use Rattle.mls_apply.specs.ProposalRules.{is_from_key_package}
use Rattle.mls_apply.specs.RuleLists.{Rule, rule, first_failing}
use Rattle.mls_apply.proofs.RuleLists.{AreKept, AreOthers, first_failing-left, first_failing-right, no_rules, one_more, others_both, passed, passed_both}
use Rattle.mls_examine.specs.Packages.{IsUnfitPackage, form_rules, is_signed, package_fault, strict_rules, supported_version, unsigned}
use Rattle.mls_examine.specs.PackagesInternal.{leaf_node_rules}
use Rattle.mls_examine.specs.declared.unfit.Unfit.{Unfit}
use Rattle.mls_examine.specs.declared.unfit.Unfit.TheVariants as unfit
use Rattle.mls_examine.proofs.Signable.{HasTwoSignatures, has_two_signatures}

-- ---- the list of the rules, part by part

encoding_rules : KeyPackage → List (Rule Unfit)
encoding_rules k = rule unfit.Malformed (is_some (package_ref k)) ∷ []

-- after version, cipher suite and leaf node
later_rules : Rules → KeyPackage → List (Rule Unfit)
unfolding encoding_rules
later_rules asked k = strict_rules (package_refusal asked k.cipher_suite k.version k) ++ encoding_rules k

-- ---- reasons that are no rule's

abbrev pub is_ruled : Unfit → Bool
is_ruled unfit.Malformed = true
is_ruled unfit.PublicMessage = true
is_ruled unfit.GroupOver = true
is_ruled unfit.LastEpoch = true
is_ruled unfit.WrongGroup = true
is_ruled unfit.WrongVersion = true
is_ruled unfit.WrongSuite = true
is_ruled unfit.PastEpoch = true
is_ruled unfit.TreeHashDiffers = true
is_ruled unfit.ConfirmedDiffers = true
is_ruled unfit.ExtensionsDiffer = true
is_ruled unfit.TagDiffers = true
is_ruled unfit.SignerNotMember = true
is_ruled unfit.TreeDiffers = true
is_ruled (unfit.StartRefused fault) = true
is_ruled unfit.SignerUnknown = true
is_ruled unfit.ExternalPubInvalid = true
is_ruled unfit.LeafSource = true
is_ruled unfit.InitKeyReused = true
is_ruled unfit.TooManyLeaves = true
is_ruled unfit.KeyRepeated = true
is_ruled (unfit.Member fault) = true
is_ruled (unfit.Unsigned qs) = false
is_ruled (unfit.Strict r) = true
is_ruled unfit.OutOfMemory = false

pub apart : (r e : Unfit) → is_ruled r ≡ true → is_ruled e ≡ false → r ≡ e → ⊥
apart r e ruled other same = let bad = sym ruled ∙ ap is_ruled same ∙ other in absurd cc

-- ---- one rule after the other

module _ (asked : Rules) (k : KeyPackage) where
  pub wrong_version : (k.version == supported_version) ≡ false → package_fault asked k ≡ Some unfit.WrongVersion
  unfolding package_fault
  wrong_version e = rw e refl

  pub wrong_suite : (k.version == supported_version) ≡ true → is_supported k.cipher_suite ≡ false → package_fault asked k ≡ Some unfit.WrongSuite
  unfolding package_fault
  wrong_suite v e = rw (v, e) refl

  module _ (v : (k.version == supported_version) ≡ true) (s : is_supported k.cipher_suite ≡ true) where
    form_is : first_failing (form_rules k) ≡ first_failing (leaf_node_rules k)
    form_is = rw (v, s) refl

    pub leaf_fault : (e : Unfit) → first_failing (leaf_node_rules k) ≡ Some e → package_fault asked k ≡ Some e
    unfolding package_fault later_rules encoding_rules
    leaf_fault e h = first_failing-left (form_rules k) (later_rules asked k) e (form_is ∙ h)

    module _ (leaf : first_failing (leaf_node_rules k) ≡ None) where
      later_is : package_fault asked k ≡ first_failing (later_rules asked k)
      unfolding package_fault later_rules encoding_rules
      later_is = first_failing-right (form_rules k) (later_rules asked k) (form_is ∙ leaf)

      pub strict_fault : (r : StrictRule) → package_refusal asked k.cipher_suite k.version k ≡ Some r → package_fault asked k ≡ Some (unfit.Strict r)
      unfolding later_rules encoding_rules
      strict_fault r e = later_is ∙ rw e refl

      module _ (none : package_refusal asked k.cipher_suite k.version k ≡ None) where
        pub no_encoding : package_ref k ≡ None → package_fault asked k ≡ Some unfit.Malformed
        unfolding later_rules encoding_rules
        no_encoding e = later_is ∙ rw (none, e) refl

        pub no_fault : (reference : List ℕ) → package_ref k ≡ Some reference → package_fault asked k ≡ None
        unfolding later_rules encoding_rules
        no_fault reference e = later_is ∙ rw (none, e) refl

-- ---- without a fault

module _ (asked : Rules) (k : KeyPackage) (none : package_fault asked k ≡ None) where
  both_kept : AreKept (form_rules k) × AreKept (later_rules asked k)
  unfolding package_fault later_rules encoding_rules
  both_kept = passed_both (form_rules k) (later_rules asked k) (record { none = none })

  pub form_kept : AreKept (form_rules k)
  form_kept = both_kept.0

  pub from_package : is_from_key_package k.leaf_node.source ≡ true
  from_package = (passed (passed (passed both_kept.0).1).1).0

  pub has_reference : is_some (package_ref k) ≡ true
  unfolding later_rules encoding_rules
  has_reference = (passed (passed_both (strict_rules (package_refusal asked k.cipher_suite k.version k)) (encoding_rules k) both_kept.1).1).0

  pub two_signatures : HasTwoSignatures k
  two_signatures = has_two_signatures k from_package has_reference

-- ---- reasons that are no rule's

pub strict_others : (o : Option StrictRule) (e : Unfit) → is_ruled e ≡ false → AreOthers e (strict_rules o)
strict_others None e other = no_rules
strict_others (Some r) e other = one_more (apart (unfit.Strict r) e refl other) no_rules

pub fault_is_ruled : (asked : Rules) (k : KeyPackage) (e : Unfit) → is_ruled e ≡ false → package_fault asked k ≡ Some e → ⊥
unfolding package_fault later_rules encoding_rules
fault_is_ruled asked k e other h =
    (others_both (form_rules k) (later_rules asked k)
    (one_more (apart _ e refl other) (one_more (apart _ e refl other) (one_more (apart _ e refl other) (one_more (apart _ e refl other)
    (one_more (apart _ e refl other) (one_more (apart _ e refl other) no_rules))))))
    (others_both (strict_rules (package_refusal asked k.cipher_suite k.version k)) (encoding_rules k)
    (strict_others (package_refusal asked k.cipher_suite k.version k) e other) (one_more (apart _ e refl other) no_rules))).never h

-- the reason that is a rule's
pub fault_is_reason : (G : VerifyFn) (asked : Rules) (k : KeyPackage) (e : Unfit) → package_fault asked k ≡ Some e → IsUnfitPackage G asked k e
fault_is_reason G asked k unfit.Malformed h = h
fault_is_reason G asked k unfit.PublicMessage h = h
fault_is_reason G asked k unfit.GroupOver h = h
fault_is_reason G asked k unfit.LastEpoch h = h
fault_is_reason G asked k unfit.WrongGroup h = h
fault_is_reason G asked k unfit.WrongVersion h = h
fault_is_reason G asked k unfit.WrongSuite h = h
fault_is_reason G asked k unfit.PastEpoch h = h
fault_is_reason G asked k unfit.TreeHashDiffers h = h
fault_is_reason G asked k unfit.ConfirmedDiffers h = h
fault_is_reason G asked k unfit.ExtensionsDiffer h = h
fault_is_reason G asked k unfit.TagDiffers h = h
fault_is_reason G asked k unfit.SignerNotMember h = h
fault_is_reason G asked k unfit.TreeDiffers h = h
fault_is_reason G asked k (unfit.StartRefused fault) h = h
fault_is_reason G asked k unfit.SignerUnknown h = h
fault_is_reason G asked k unfit.ExternalPubInvalid h = h
fault_is_reason G asked k unfit.LeafSource h = h
fault_is_reason G asked k unfit.InitKeyReused h = h
fault_is_reason G asked k unfit.TooManyLeaves h = h
fault_is_reason G asked k unfit.KeyRepeated h = h
fault_is_reason G asked k (unfit.Member fault) h = h
fault_is_reason G asked k (unfit.Unsigned qs) h = absurd (fault_is_ruled asked k (unfit.Unsigned qs) refl h)
fault_is_reason G asked k (unfit.Strict r) h = h
fault_is_reason G asked k unfit.OutOfMemory h = h

-- a reason is a rule's, or signatures are
pub reason_is : (G : VerifyFn) (asked : Rules) (k : KeyPackage) (e : Unfit) → IsUnfitPackage G asked k e
    → (package_fault asked k ≡ Some e) ⊎ ((package_fault asked k ≡ None) × (is_signed G k ≡ false) × (e ≡ unfit.Unsigned (unsigned G k)))
reason_is G asked k unfit.Malformed h = inl h
reason_is G asked k unfit.PublicMessage h = inl h
reason_is G asked k unfit.GroupOver h = inl h
reason_is G asked k unfit.LastEpoch h = inl h
reason_is G asked k unfit.WrongGroup h = inl h
reason_is G asked k unfit.WrongVersion h = inl h
reason_is G asked k unfit.WrongSuite h = inl h
reason_is G asked k unfit.PastEpoch h = inl h
reason_is G asked k unfit.TreeHashDiffers h = inl h
reason_is G asked k unfit.ConfirmedDiffers h = inl h
reason_is G asked k unfit.ExtensionsDiffer h = inl h
reason_is G asked k unfit.TagDiffers h = inl h
reason_is G asked k unfit.SignerNotMember h = inl h
reason_is G asked k unfit.TreeDiffers h = inl h
reason_is G asked k (unfit.StartRefused fault) h = inl h
reason_is G asked k unfit.SignerUnknown h = inl h
reason_is G asked k unfit.ExternalPubInvalid h = inl h
reason_is G asked k unfit.LeafSource h = inl h
reason_is G asked k unfit.InitKeyReused h = inl h
reason_is G asked k unfit.TooManyLeaves h = inl h
reason_is G asked k unfit.KeyRepeated h = inl h
reason_is G asked k (unfit.Member fault) h = inl h
reason_is G asked k (unfit.Unsigned qs) h = inr (h.0, h.1, ap unfit.Unsigned h.2)
reason_is G asked k (unfit.Strict r) h = inl h
reason_is G asked k unfit.OutOfMemory h = inl h
