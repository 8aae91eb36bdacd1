-- What the steps of `check_package` find out, as the reasons why a KeyPackage is not good.
use Rattle.std.proofs.Common.{◌≡◌, ◌≢◌, ◌∙◌, ℕ, Bool, true, false, List, [], Result, Ok, Err, Some, None, refl, sym, inl, inr, arith}
use Rattle.std.specs.Prelude.{◌↔◌, ◌==◌, ◌&&◌, nat_le}
use Rattle.std.proofs.lemmas.Bool.{eq-eqb, ne_eqb}
use Rattle.std.proofs.lemmas.Bool.Decides.{nat_tests}
use Rattle.mls_hash.specs.Suites.{IsSupported, is_supported}
use Rattle.mls_hash.specs.declared.fault.HashFault.{HashFault}
use Rattle.mls_hash.specs.declared.fault.HashFault.TheVariants.{UnsupportedSuite}
use Rattle.mls_hash.proofs.Suites.{passes_test, supported_or_not}
use Rattle.mls_check.specs.Signatures.{VerifyFn}
use Rattle.mls_msgs.specs.declared.key_package.KeyPackage.{KeyPackage}
use Rattle.mls_msgs.specs.declared.rules.Rules.{Rules}
use Rattle.mls_strict.specs.ContentForms.{package_refusal}
use Rattle.mls_apply.specs.PackageRefs.{package_ref}
use Rattle.mls_apply.specs.RuleLists.{first_failing}
use Rattle.mls_apply.specs.declared.package_refs.PackageRefFault.{PackageRefFault}
use Rattle.mls_apply.specs.declared.package_refs.PackageRefFault.TheVariants as faults
use Rattle.mls_examine.specs.Packages.{IsGoodPackage, IsUnfitPackage, is_signed, package_fault, supported_version, unsigned}
use Rattle.mls_examine.specs.PackagesInternal.{leaf_node_rules}
use Rattle.mls_examine.specs.UnfitNumbers.{unreferenced}
use Rattle.mls_examine.specs.declared.unfit.Unfit.TheVariants as unfit
use Rattle.mls_examine.proofs.Accepting.{signed_if_none, unsigned_if_some}
use Rattle.mls_examine.proofs.Faults.{no_encoding, no_fault, two_signatures}

-- ---- version and cipher suite

pub other_version : (n : ℕ) → (n ≡ 1 → ⊥) → (n == supported_version) ≡ false
other_version n h = ne_eqb n 1 h

pub that_version : (n : ℕ) → n ≡ 1 → (n == supported_version) ≡ true
that_version n e = eq-eqb n 1 e

-- a suite that is not supported does not pass the test
pub other_suite : (suite : ℕ) → (¬ IsSupported suite) → is_supported suite ≡ false
other_suite suite h = go (nat_le 1 suite) (nat_le suite 7) refl refl
  where
    go : (a b : Bool) → nat_le 1 suite ≡ a → nat_le suite 7 ≡ b → (a && b) ≡ false
    go true true p q = absurd (h (grind (arith, nat_tests), grind (arith, nat_tests)))
    go false b p q = refl
    go true false p q = refl

-- a suite that is made of a number
pub that_suite : (n suite : ℕ) → (IsSupported n → ◌≡◌ {A = Result ℕ HashFault} (Ok suite) (Ok n))
    → ((¬ IsSupported n) → ◌≡◌ {A = Result ℕ HashFault} (Ok suite) (Err UnsupportedSuite)) → (is_supported n ≡ true) × (suite ≡ n)
that_suite n suite made none =
    elim (supported_or_not n) [
      | inl h ↦ (passes_test n h, let same = made h in grind arith)
      | inr h ↦ let bad = none h in absurd cc
    ]

-- ---- encoding and signatures

module _ (asked : Rules) (k : KeyPackage) (v : (k.version == supported_version) ≡ true) (s : is_supported k.cipher_suite ≡ true)
    (leaf : first_failing (leaf_node_rules k) ≡ None) (none : package_refusal asked k.cipher_suite k.version k ≡ None) where
  pub reference_fault : (G : VerifyFn) (f : PackageRefFault)
      → (◌≡◌ {A = Result (List ℕ) PackageRefFault} (Err f) (Err faults.UnsupportedSuite) ↔ (is_supported k.cipher_suite ≡ false))
      → (◌≡◌ {A = Result (List ℕ) PackageRefFault} (Err f) (Err faults.TooLong) → package_ref k ≡ None)
      → unreferenced f ≢ unfit.OutOfMemory → IsUnfitPackage G asked k (unreferenced f)
  reference_fault G faults.UnsupportedSuite unsupported too_long other =
      let bad = sym s ∙ unsupported.0 refl in absurd cc
  reference_fault G faults.TooLong unsupported too_long other = no_encoding asked k v s leaf none (too_long refl)
  reference_fault G faults.OutOfMemory unsupported too_long other = absurd (other refl)

  module _ (G : VerifyFn) (reference : List ℕ) (has : package_ref k ≡ Some reference) where
    is_faultless : package_fault asked k ≡ None
    is_faultless = no_fault asked k v s leaf none reference has

    pub is_good : unsigned G k ≡ [] → IsGoodPackage G asked k
    is_good all = record { no_fault = is_faultless; signed = signed_if_none G k (two_signatures asked k is_faultless) all }

    pub is_unsigned : (unsigned G k ≡ [] → ⊥) → (package_fault asked k ≡ None) × (is_signed G k ≡ false)
    is_unsigned some = (is_faultless, unsigned_if_some G k (two_signatures asked k is_faultless) some)
