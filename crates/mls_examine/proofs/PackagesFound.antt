-- What is found of the bytes of a KeyPackage: something, and one thing.
use Rattle.std.proofs.Common.{◌≡◌, ◌∙◌, ◌⊎◌, ◌≤◌, ℕ, List, length, Bool, true, false, Some, is_some, Option, None, refl, sym, ap, subst, inl, inr, arith}
use Rattle.std.specs.Prelude.{nat_le}
use Rattle.std.proofs.lemmas.Bool.{false≢true}
use Rattle.std.proofs.lemmas.Bool.Decides.{nat_tests}
use Rattle.mls_wire.specs.Limits.{input_limit}
use Rattle.mls_wire.specs.declared.fault.WireFault.{WireFault}
use Rattle.mls_wire.specs.declared.fault.WireFaultKind.TheVariants.{TooLong}
use Rattle.mls_nodes.specs.declared.leaf_source.LeafSource.{LeafSource}
use Rattle.mls_nodes.specs.declared.leaf_source.LeafSource.TheVariants as sources
use Rattle.mls_nodes.specs.declared.leaf_source.Lifetime.{Lifetime}
use Rattle.mls_check.specs.Signatures.{VerifyFn}
use Rattle.mls_msgs.specs.Profile.{message_in}
use Rattle.mls_msgs.specs.declared.key_package.KeyPackage.{KeyPackage}
use Rattle.mls_msgs.specs.declared.message.Message.{Message}
use Rattle.mls_msgs.specs.declared.message.Message.TheVariants as messages
use Rattle.mls_msgs.specs.declared.profile.Profile.TheVariants.{Members}
use Rattle.mls_msgs.specs.declared.rules.Rules.{Rules}
use Rattle.mls_msgs.proofs.Profiles.{message_or_none, messages_once}
use Rattle.mls_apply.specs.PackageRefs.{package_ref}
use Rattle.mls_apply.specs.ProposalRules.{is_from_key_package}
use Rattle.mls_examine.specs.PackageFindingLaws.{AreAlikeFindings, PackageFindingExists, PackageFindingIsUnique}
use Rattle.mls_examine.specs.PackageFindings.{IsMessage, IsOtherMessage, IsPackage, IsPackageFinding}
use Rattle.mls_examine.specs.Packages.{IsFactsOf, IsGoodPackage, IsUnfitPackage, lifetime_of}
use Rattle.mls_examine.specs.declared.package_check.PackageFacts.{PackageFacts}
use Rattle.mls_examine.specs.declared.finding.PackageFinding.{PackageFinding}
use Rattle.mls_examine.specs.declared.finding.PackageFinding.TheVariants as findings
use Rattle.mls_examine.specs.declared.unfit.Unfit.{Unfit}
use Rattle.mls_examine.proofs.Deciding.{facts_are_unique, fault_is_unique, no_fault_of_good, package_or_fault}
use Rattle.mls_examine.proofs.Faults.{from_package, has_reference}

-- ---- bytes encode one message

package_in : (k l : KeyPackage) → messages.KeyPackage k ≡ messages.KeyPackage l → k ≡ l
package_in k l e = cc

one_package : (bytes : List ℕ) (k l : KeyPackage) → IsPackage bytes k → IsPackage bytes l → k ≡ l
one_package bytes k l a b = package_in k l (messages_once Members (messages.KeyPackage k) (messages.KeyPackage l) bytes a.0 b.0)

no_other : (bytes : List ℕ) (k : KeyPackage) → IsOtherMessage bytes → IsPackage bytes k → ⊥
no_other bytes k a b = a.2 k (messages_once Members a.0 (messages.KeyPackage k) bytes a.1.0 b.0)

-- ---- one thing is found

module _ (asked : Rules) (G : VerifyFn) (bytes : List ℕ) where
  same_unfit : (e : Unfit) (k l : KeyPackage) → IsPackage bytes k → IsPackage bytes l → IsUnfitPackage G asked k e → IsUnfitPackage G asked l e
  same_unfit e k l a b h = subst (λ (x : KeyPackage). IsUnfitPackage G asked x e) (one_package bytes k l a b) h

  alike : (f g : PackageFinding) → IsPackageFinding asked G bytes f → IsPackageFinding asked G bytes g → AreAlikeFindings f g
  alike (findings.Unreadable x) (findings.Unreadable y) a b = tt
  alike (findings.Unreadable x) findings.NotKeyPackage a b = absurd (a b.0 b.1.0 b.1.1)
  alike (findings.Unreadable x) (findings.Unfit e) a b = absurd (a (messages.KeyPackage b.0) b.1.0 b.1.1)
  alike (findings.Unreadable x) (findings.Good facts) a b = absurd (a (messages.KeyPackage b.0) b.1.0 b.1.1)
  alike findings.NotKeyPackage (findings.Unreadable y) a b = absurd (b a.0 a.1.0 a.1.1)
  alike findings.NotKeyPackage findings.NotKeyPackage a b = refl
  alike findings.NotKeyPackage (findings.Unfit e) a b = absurd (no_other bytes b.0 a b.1)
  alike findings.NotKeyPackage (findings.Good facts) a b = absurd (no_other bytes b.0 a b.1)
  alike (findings.Unfit e) (findings.Unreadable y) a b = absurd (b (messages.KeyPackage a.0) a.1.0 a.1.1)
  alike (findings.Unfit e) findings.NotKeyPackage a b = absurd (no_other bytes a.0 b a.1)
  alike (findings.Unfit e) (findings.Unfit f) a b =
      ap findings.Unfit (fault_is_unique G asked b.0 e f (same_unfit e a.0 b.0 a.1 b.1 a.3) b.3)
  alike (findings.Unfit e) (findings.Good facts) a b =
      absurd (no_fault_of_good G asked b.0 e (same_unfit e a.0 b.0 a.1 b.1 a.3) b.2)
  alike (findings.Good facts) (findings.Unreadable y) a b = absurd (b (messages.KeyPackage a.0) a.1.0 a.1.1)
  alike (findings.Good facts) findings.NotKeyPackage a b = absurd (no_other bytes a.0 b a.1)
  alike (findings.Good facts) (findings.Unfit e) a b =
      absurd (no_fault_of_good G asked a.0 e (same_unfit e b.0 a.0 b.1 a.1 b.3) a.2)
  alike (findings.Good facts) (findings.Good other) a b =
      ap findings.Good (facts_are_unique b.0 facts other
      (subst (λ (x : KeyPackage). IsFactsOf x facts) (one_package bytes a.0 b.0 a.1 b.1) a.3) b.3)

pub finding_is_unique : PackageFindingIsUnique
finding_is_unique asked G bytes f g a b = alike asked G bytes f g a b

-- ---- something is found

-- a good KeyPackage has its facts
lifetime_is : (s : LeafSource) → is_from_key_package s ≡ true → (lifetime : Lifetime) × (lifetime_of s ≡ Some lifetime)
lifetime_is (sources.KeyPackage lifetime) e = (lifetime, refl)
lifetime_is sources.Update e = absurd cc
lifetime_is (sources.Commit parent_hash) e = absurd cc

some_reference : (o : Option (List ℕ)) → is_some o ≡ true → (reference : List ℕ) × (o ≡ Some reference)
some_reference None e = absurd cc
some_reference (Some reference) e = (reference, refl)

module _ (asked : Rules) (G : VerifyFn) (k : KeyPackage) (good : IsGoodPackage G asked k) where
  has_facts : (facts : PackageFacts) × IsFactsOf k facts
  has_facts =
      let lifetime = lifetime_is k.leaf_node.source (from_package asked k good.no_fault) in
      let reference = some_reference (package_ref k) (has_reference asked k good.no_fault) in (
        record { reference = reference.0; cipher_suite = k.cipher_suite; lifetime = lifetime.0 },
        record { reference = reference.1; suite = refl; lifetime = lifetime.1 },
      )

-- the bytes are those of an input, or too many
fits_or_not : (bytes : List ℕ) → (length bytes ≤ input_limit) ⊎ (length bytes ≤ input_limit → ⊥)
fits_or_not bytes = go (nat_le (length bytes) input_limit) refl
  where
    go : (b : Bool) → nat_le (length bytes) input_limit ≡ b → (length bytes ≤ input_limit) ⊎ (length bytes ≤ input_limit → ⊥)
    go true e = inl (grind (arith, nat_tests))
    go false e = inr (λ le. let t : nat_le (length bytes) input_limit ≡ true = grind (arith, nat_tests) in false≢true (sym e ∙ t))

some_fault : WireFault
some_fault = record { kind = TooLong; at = 0 }

module _ (asked : Rules) (G : VerifyFn) (bytes : List ℕ) where
  abbrev Found : Type 0
  Found = (finding : PackageFinding) × IsPackageFinding asked G bytes finding

  by_package : (k : KeyPackage) → IsPackage bytes k → Found
  by_package k h =
      elim (package_or_fault G asked k) [
        | inl good ↦ let facts = has_facts asked G k good in (findings.Good facts.0, (k, h, good, facts.1))
        | inr bad ↦ (findings.Unfit bad.0, (k, h, bad.1, bad.2))
      ]

  by_message : (m : Message) → IsMessage bytes m → Found
  by_message (messages.KeyPackage k) h = by_package k h
  by_message (messages.Public p) h = (findings.NotKeyPackage, (messages.Public p, h, λ k e. cc))
  by_message (messages.Unread format body) h = (findings.NotKeyPackage, (messages.Unread format body, h, λ k e. cc))
  by_message (messages.GroupInfo info) h = (findings.NotKeyPackage, (messages.GroupInfo info, h, λ k e. cc))

  found : Found
  found = go (message_or_none Members bytes) (fits_or_not bytes)
    where
      go : ((m : Message) × (message_in Members m ≡ Some bytes)) ⊎ ((m : Message) → message_in Members m ≡ Some bytes → ⊥)
          → (length bytes ≤ input_limit) ⊎ (length bytes ≤ input_limit → ⊥) → Found
      go (inr none) fits = (findings.Unreadable some_fault, λ m e le. none m e)
      go (inl m) (inr over) = (findings.Unreadable some_fault, λ n e le. over le)
      go (inl m) (inl le) = by_message m.0 (m.1, le)

pub finding_exists : PackageFindingExists
finding_exists asked G bytes = found asked G bytes
