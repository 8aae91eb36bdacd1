-- Good KeyPackages and the reasons why one is not good.
use Rattle.std.proofs.Common.{◌≡◌, ◌∙◌, ◌⊎◌, Option, Some, None, refl, sym, ap, inl, inr, List, ℕ}
use Rattle.std.specs.Prelude.{◌≢◌}
use Rattle.std.proofs.lemmas.Bool.{cases_Bool}
use Rattle.std.proofs.lemmas.Option.{none-some, same_Some}
use Rattle.mls_nodes.specs.declared.leaf_source.Lifetime.{Lifetime}
use Rattle.mls_check.specs.Signatures.{VerifyFn}
use Rattle.mls_msgs.specs.declared.key_package.KeyPackage.{KeyPackage}
use Rattle.mls_msgs.specs.declared.rules.Rules.{Rules}
use Rattle.mls_examine.specs.PackageLaws.{CoveredPackagesAreGood, GoodPackagesStay, NoFaultOfGood, PackageFactsAreUnique, PackageFaultIsUnique, PackageOrFault}
use Rattle.mls_examine.specs.Packages.{IsGoodPackage, IsUnfitPackage, is_signed, package_fault, unsigned}
use Rattle.mls_examine.specs.declared.package_check.PackageFacts.{PackageFacts}
use Rattle.mls_examine.specs.declared.unfit.Unfit.{Unfit}
use Rattle.mls_examine.specs.declared.unfit.Unfit.TheVariants as unfit
use Rattle.mls_examine.proofs.Accepting.{covered_is_signed, signed_stays}
use Rattle.mls_examine.proofs.Faults.{fault_is_reason, fault_is_ruled, reason_is, two_signatures}

module _ (G : VerifyFn) (asked : Rules) (k : KeyPackage) where
  abbrev Decided : Type 0
  Decided = IsGoodPackage G asked k ⊎ ((e : Unfit) × (e ≢ unfit.OutOfMemory) × IsUnfitPackage G asked k e)

  decide : (o : Option Unfit) → package_fault asked k ≡ o → Decided
  decide (Some e) h =
      inr (e, (λ same. fault_is_ruled asked k unfit.OutOfMemory refl (h ∙ ap Some same)), fault_is_reason G asked k e h)
  decide None h =
      elim (cases_Bool (is_signed G k)) [
        | inl holds ↦ inl (record { no_fault = h; signed = holds })
        | inr fails ↦ inr (unfit.Unsigned (unsigned G k), (λ same. absurd cc), (h, fails, refl))
      ]

pub package_or_fault : PackageOrFault
package_or_fault G asked k = decide G asked k (package_fault asked k) refl

pub no_fault_of_good : NoFaultOfGood
no_fault_of_good G asked k e h good =
    elim (reason_is G asked k e h) [
      | inl fault ↦ none-some e (sym good.no_fault ∙ fault)
      | inr bad ↦ let both = sym good.signed ∙ bad.1 in absurd cc
    ]

pub fault_is_unique : PackageFaultIsUnique
fault_is_unique G asked k e f h g =
    elim (reason_is G asked k e h) [
      | inl fault ↦
          elim (reason_is G asked k f g) [
            | inl other ↦ same_Some e f (sym fault ∙ other)
            | inr bad ↦ absurd (none-some e (sym bad.0 ∙ fault))
          ]
      | inr bad ↦
          elim (reason_is G asked k f g) [
            | inl other ↦ absurd (none-some f (sym bad.0 ∙ other))
            | inr also ↦ bad.2 ∙ sym also.2
          ]
    ]

pub good_packages_stay : GoodPackagesStay
good_packages_stay G K asked k more good = record { no_fault = good.no_fault; signed = signed_stays G K more k good.signed }

pub covered_packages_are_good : CoveredPackagesAreGood
covered_packages_are_good G K asked k qs h more each =
    record {
      no_fault = h.0;
      signed = covered_is_signed G K more k (two_signatures asked k h.0) (rw (h.2) at each);
    }

abbrev facts_of : List ℕ → ℕ → Lifetime → PackageFacts
facts_of reference suite lifetime = record { reference = reference; cipher_suite = suite; lifetime = lifetime }

pub facts_are_unique : PackageFactsAreUnique
facts_are_unique k facts other h g =
    ap (λ r. facts_of r facts.cipher_suite facts.lifetime) (same_Some facts.reference other.reference (sym h.reference ∙ g.reference))
    ∙ ap (λ s. facts_of other.reference s facts.lifetime) (h.suite ∙ sym g.suite)
    ∙ ap (λ l. facts_of other.reference other.cipher_suite l) (same_Some facts.lifetime other.lifetime (sym h.lifetime ∙ g.lifetime))
