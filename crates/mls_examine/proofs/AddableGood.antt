-- An addable KeyPackage is good by itself.
use Rattle.std.proofs.Common.{◌≡◌, ◌∙◌, ℕ, List, true, Option, Some, None, refl, sym, ap, subst}
use Rattle.std.specs.Prelude.{◌==◌, is_some}
use Rattle.std.proofs.lemmas.Bool.{eq-eqb}
use Rattle.mls_hash.specs.Suites.{IsSupported, is_supported}
use Rattle.mls_hash.proofs.Suites.{passes_test}
use Rattle.mls_check.specs.GroupTree.{IsSupportedContext}
use Rattle.mls_msgs.specs.declared.key_package.KeyPackage.{KeyPackage}
use Rattle.mls_strict.specs.ContentForms.{package_refusal}
use Rattle.mls_apply.specs.PackageRefs.{package_ref}
use Rattle.mls_apply.specs.RuleLists.{first_failing}
use Rattle.mls_follow.specs.State.{State}
use Rattle.mls_examine.specs.GroupInternal.{supports_group}
use Rattle.mls_examine.specs.GroupLaws.{AddableIsGood}
use Rattle.mls_examine.specs.Packages.{package_fault, supported_version}
use Rattle.mls_examine.specs.PackagesInternal.{leaf_node_rules}
use Rattle.mls_examine.proofs.AddableParts.{AddableParts, addable_parts}
use Rattle.mls_examine.proofs.Faults.{no_fault}
use Rattle.mls_examine.proofs.GroupStrict.{none_by_itself, refusal_in_group}
use Rattle.mls_nodes.specs.declared.required_capabilities.RequiredCapabilities.{RequiredCapabilities}

some_reference : (o : Option (List ℕ)) → is_some o ≡ true → (reference : List ℕ) × (o ≡ Some reference)
some_reference None h = absurd cc
some_reference (Some reference) h = (reference, refl)

module _ (s : State) (required : RequiredCapabilities) (k : KeyPackage) (supported : IsSupportedContext s.context) (p : AddableParts s required k) where
  version_one : (k.version == supported_version) ≡ true
  version_one = eq-eqb k.version supported_version (p.version ∙ supported.version)

  suite_supported : is_supported k.cipher_suite ≡ true
  suite_supported = passes_test k.cipher_suite (subst IsSupported (sym p.suite) supported.suite)

  leaf_kept : first_failing (leaf_node_rules k) ≡ None
  leaf_kept = rw (p.source, p.init_key, p.own, p.used) refl

  by_itself : package_refusal s.rules s.context.cipher_suite s.context.version k ≡ None
  by_itself =
      none_by_itself (package_refusal s.rules s.context.cipher_suite s.context.version k) (supports_group s.rules s.context k)
      (sym (refusal_in_group s.rules s.context k) ∙ p.strict)

  strict_kept : package_refusal s.rules k.cipher_suite k.version k ≡ None
  strict_kept =
      ap (λ (suite : ℕ). package_refusal s.rules suite k.version k) p.suite
      ∙ ap (λ (version : ℕ). package_refusal s.rules s.context.cipher_suite version k) p.version ∙ by_itself

  faultless : package_fault s.rules k ≡ None
  faultless =
      let reference = some_reference (package_ref k) p.encoded in
      no_fault s.rules k version_one suite_supported leaf_kept strict_kept reference.0 reference.1

pub addable_is_good : AddableIsGood
addable_is_good G s k supported a = record {
  no_fault = faultless s a.required k supported (addable_parts s a.required k a.no_fault);
  signed = a.signed;
}
