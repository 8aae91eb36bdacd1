-- KeyPackages in a group: one can be added, or there is one reason why not; and what more signatures that are good change.
use Rattle.std.proofs.Common.{◌≡◌, ◌≢◌, ◌∙◌, ◌⊎◌, ℕ, List, Bool, true, false, Option, Some, None, refl, sym, ap, subst, inl, inr}
use Rattle.std.specs.Prelude.{is_some, ◌++◌}
use Rattle.std.proofs.lemmas.Bool.{cases_Bool}
use Rattle.std.proofs.lemmas.Option.{none-some, same_Some}
use Rattle.mls_nodes.specs.Requirements.{Requires}
use Rattle.mls_nodes.specs.declared.leaf_source.Lifetime.{Lifetime}
use Rattle.mls_nodes.specs.declared.leaf_source.LeafSource.{LeafSource}
use Rattle.mls_nodes.specs.declared.leaf_source.LeafSource.TheVariants as sources
use Rattle.mls_nodes.specs.declared.required_capabilities.RequiredCapabilities.{RequiredCapabilities}
use Rattle.mls_nodes.proofs.RequiredOnce.{Requires-one}
use Rattle.mls_check.specs.LeafValidation.{member_fault}
use Rattle.mls_check.specs.Signatures.{Extends, VerifyFn}
use Rattle.mls_check.specs.declared.members.MemberFault.{MemberFault}
use Rattle.mls_msgs.specs.declared.key_package.KeyPackage.{KeyPackage}
use Rattle.mls_apply.specs.AppliedList.{AppliedTree}
use Rattle.mls_apply.specs.PackageRefs.{package_ref}
use Rattle.mls_apply.specs.ProposalRules.{is_from_key_package}
use Rattle.mls_apply.proofs.RuleLists.{AreOthers, no_rules, one_more, others_both}
use Rattle.mls_signatures.specs.declared.signature_to_verify.SignatureToVerify.{SignatureToVerify}
use Rattle.mls_follow.specs.CoveredLogs.{all_good}
use Rattle.mls_follow.specs.LoneAdd.{lone_add_rules, lone_member_rules, with_client}
use Rattle.mls_follow.specs.State.{State}
use Rattle.mls_examine.specs.AddablePackages.{IsAddable, IsUnaddable, IsUnsignedIn, addable_fault, fit_rules, form_rules_in, group_package_refusal, unfit_add_rules}
use Rattle.mls_examine.specs.PackageLaws.{AcceptsEach}
use Rattle.mls_examine.specs.Packages.{IsFactsOf, is_signed, lifetime_of, strict_rules, unsigned}
use Rattle.mls_examine.specs.declared.package_check.PackageFacts.{PackageFacts}
use Rattle.mls_examine.specs.declared.unfit.Unfit.{Unfit}
use Rattle.mls_examine.specs.declared.unfit.Unfit.TheVariants as unfit
use Rattle.mls_examine.proofs.Accepting.{covered_is_signed, signed_stays}
use Rattle.mls_examine.proofs.AddableParts.{addable_parts}
use Rattle.mls_examine.proofs.Faults.{apart, is_ruled, strict_others}
use Rattle.mls_examine.proofs.Signable.{HasTwoSignatures, has_two_signatures}

-- ---- reasons that are no rule's

lone_members_others : (o : Option MemberFault) (e : Unfit) → is_ruled e ≡ false → AreOthers e (unfit_add_rules (lone_member_rules o))
lone_members_others None e other = no_rules
lone_members_others (Some f) e other = one_more (apart (unfit.Member f) e refl other) no_rules

lone_others : (s : State) (required : RequiredCapabilities) (o : Option AppliedTree) (e : Unfit) → is_ruled e ≡ false
    → AreOthers e (unfit_add_rules (lone_add_rules s required o))
lone_others s required None e other = one_more (apart unfit.TooManyLeaves e refl other) no_rules
lone_others s required (Some g) e other =
    one_more (apart unfit.KeyRepeated e refl other)
    (lone_members_others (member_fault all_good s.context.cipher_suite s.context.group_id required g.tree) e other)

pub fault_is_ruled_in : (s : State) (required : RequiredCapabilities) (k : KeyPackage) (e : Unfit) → is_ruled e ≡ false
    → addable_fault s required k ≡ Some e → ⊥
unfolding addable_fault
fault_is_ruled_in s required k e other h =
    (others_both (fit_rules s k) (unfit_add_rules (lone_add_rules s required (with_client s k)) ++ form_rules_in s k)
    (one_more (apart _ e refl other) (one_more (apart _ e refl other) (one_more (apart _ e refl other) (one_more (apart _ e refl other)
    (one_more (apart _ e refl other) (one_more (apart _ e refl other) no_rules))))))
    (others_both (unfit_add_rules (lone_add_rules s required (with_client s k))) (form_rules_in s k)
    (lone_others s required (with_client s k) e other)
    (others_both (strict_rules (group_package_refusal s.rules s.context k)) _
    (strict_others (group_package_refusal s.rules s.context k) e other) (one_more (apart _ e refl other) no_rules)))).never h

-- ---- one answer

module _ (s : State) (k : KeyPackage) (required : RequiredCapabilities) (requires : Requires s.context required) where
  -- a fault under what the group requires is one under each reading of it
  pub each_reading : (o : Option Unfit) → addable_fault s required k ≡ o → (r : RequiredCapabilities) → Requires s.context r → addable_fault s r k ≡ o
  each_reading o h r own = subst (λ (q : RequiredCapabilities). addable_fault s q k ≡ o) (Requires-one s.context required r requires own) h

-- the reason that is a rule's
pub fault_is_reason_in : (G : VerifyFn) (s : State) (k : KeyPackage) (e : Unfit) → is_ruled e ≡ true
    → ((required : RequiredCapabilities) → Requires s.context required → addable_fault s required k ≡ Some e) → IsUnaddable G s k e
fault_is_reason_in G s k unfit.Malformed ruled h = h
fault_is_reason_in G s k unfit.PublicMessage ruled h = h
fault_is_reason_in G s k unfit.GroupOver ruled h = h
fault_is_reason_in G s k unfit.LastEpoch ruled h = h
fault_is_reason_in G s k unfit.WrongGroup ruled h = h
fault_is_reason_in G s k unfit.WrongVersion ruled h = h
fault_is_reason_in G s k unfit.WrongSuite ruled h = h
fault_is_reason_in G s k unfit.PastEpoch ruled h = h
fault_is_reason_in G s k unfit.TreeHashDiffers ruled h = h
fault_is_reason_in G s k unfit.ConfirmedDiffers ruled h = h
fault_is_reason_in G s k unfit.ExtensionsDiffer ruled h = h
fault_is_reason_in G s k unfit.TagDiffers ruled h = h
fault_is_reason_in G s k unfit.SignerNotMember ruled h = h
fault_is_reason_in G s k unfit.TreeDiffers ruled h = h
fault_is_reason_in G s k (unfit.StartRefused fault) ruled h = h
fault_is_reason_in G s k unfit.SignerUnknown ruled h = h
fault_is_reason_in G s k unfit.ExternalPubInvalid ruled h = h
fault_is_reason_in G s k unfit.LeafSource ruled h = h
fault_is_reason_in G s k unfit.InitKeyReused ruled h = h
fault_is_reason_in G s k unfit.TooManyLeaves ruled h = h
fault_is_reason_in G s k unfit.KeyRepeated ruled h = h
fault_is_reason_in G s k (unfit.Member fault) ruled h = h
fault_is_reason_in G s k (unfit.Unsigned qs) ruled h = absurd cc
fault_is_reason_in G s k (unfit.Strict r) ruled h = h
fault_is_reason_in G s k unfit.OutOfMemory ruled h = absurd cc

-- a reason is a rule's, or signatures are
pub reason_is_in : (G : VerifyFn) (s : State) (k : KeyPackage) (e : Unfit) → IsUnaddable G s k e
    → ((required : RequiredCapabilities) → Requires s.context required → addable_fault s required k ≡ Some e)
    ⊎ (IsUnsignedIn G s k (unsigned G k) × (e ≡ unfit.Unsigned (unsigned G k)))
reason_is_in G s k unfit.Malformed h = inl h
reason_is_in G s k unfit.PublicMessage h = inl h
reason_is_in G s k unfit.GroupOver h = inl h
reason_is_in G s k unfit.LastEpoch h = inl h
reason_is_in G s k unfit.WrongGroup h = inl h
reason_is_in G s k unfit.WrongVersion h = inl h
reason_is_in G s k unfit.WrongSuite h = inl h
reason_is_in G s k unfit.PastEpoch h = inl h
reason_is_in G s k unfit.TreeHashDiffers h = inl h
reason_is_in G s k unfit.ConfirmedDiffers h = inl h
reason_is_in G s k unfit.ExtensionsDiffer h = inl h
reason_is_in G s k unfit.TagDiffers h = inl h
reason_is_in G s k unfit.SignerNotMember h = inl h
reason_is_in G s k unfit.TreeDiffers h = inl h
reason_is_in G s k (unfit.StartRefused fault) h = inl h
reason_is_in G s k unfit.SignerUnknown h = inl h
reason_is_in G s k unfit.ExternalPubInvalid h = inl h
reason_is_in G s k unfit.LeafSource h = inl h
reason_is_in G s k unfit.InitKeyReused h = inl h
reason_is_in G s k unfit.TooManyLeaves h = inl h
reason_is_in G s k unfit.KeyRepeated h = inl h
reason_is_in G s k (unfit.Member fault) h = inl h
reason_is_in G s k (unfit.Unsigned qs) h =
    inr (record { required = h.required; requires = h.requires; no_fault = h.no_fault; not_signed = h.not_signed; signatures = refl }, ap unfit.Unsigned h.signatures)
reason_is_in G s k (unfit.Strict r) h = inl h
reason_is_in G s k unfit.OutOfMemory h = inl h

module _ (G : VerifyFn) (s : State) (k : KeyPackage) (required : RequiredCapabilities) (requires : Requires s.context required) where
  abbrev Answered : Type 0
  Answered = IsAddable G s k ⊎ ((e : Unfit) × (e ≢ unfit.OutOfMemory) × IsUnaddable G s k e)

  ruled_or_not : (e : Unfit) (b : Bool) → is_ruled e ≡ b → addable_fault s required k ≡ Some e → Answered
  ruled_or_not e true ruled h =
      inr (
        e,
        (λ same. fault_is_ruled_in s required k unfit.OutOfMemory refl (h ∙ ap Some same)),
        fault_is_reason_in G s k e ruled (each_reading s k required requires (Some e) h),
      )
  ruled_or_not e false other h = absurd (fault_is_ruled_in s required k e other h)

  answered : (o : Option Unfit) → addable_fault s required k ≡ o → Answered
  answered (Some e) h = ruled_or_not e (is_ruled e) refl h
  answered None h =
      elim (cases_Bool (is_signed G k)) [
        | inl holds ↦ inl (record { required = required; requires = requires; no_fault = h; signed = holds })
        | inr fails ↦
            inr (
              unfit.Unsigned (unsigned G k),
              (λ same. absurd cc),
              record { required = required; requires = requires; no_fault = h; not_signed = fails; signatures = refl },
            )
      ]

  pub addable_or_not : Answered
  addable_or_not = answered (addable_fault s required k) refl

  pub one_reason : (e f : Unfit) → IsUnaddable G s k e → IsUnaddable G s k f → e ≡ f
  one_reason e f a b =
      elim (reason_is_in G s k e a) [
        | inl fault ↦
            elim (reason_is_in G s k f b) [
              | inl other ↦ same_Some e f (sym (fault required requires) ∙ other required requires)
              | inr bad ↦ absurd (none-some e (sym (each_reading s k bad.0.required bad.0.requires None bad.0.no_fault required requires) ∙ fault required requires))
            ]
        | inr bad ↦
            elim (reason_is_in G s k f b) [
              | inl other ↦ absurd (none-some f (sym (each_reading s k bad.0.required bad.0.requires None bad.0.no_fault required requires) ∙ other required requires))
              | inr also ↦ bad.1 ∙ sym also.1
            ]
      ]

pub not_both : (G : VerifyFn) (s : State) (k : KeyPackage) (e : Unfit) → IsAddable G s k → IsUnaddable G s k e → ⊥
not_both G s k e a b =
    elim (reason_is_in G s k e b) [
      | inl fault ↦ none-some e (sym a.no_fault ∙ fault a.required a.requires)
      | inr bad ↦ let both = sym a.signed ∙ bad.0.not_signed in absurd cc
    ]

-- ---- what is known of one that can be added

lifetime_in : (source : LeafSource) → is_from_key_package source ≡ true → (lifetime : Lifetime) × (lifetime_of source ≡ Some lifetime)
lifetime_in (sources.KeyPackage lifetime) h = (lifetime, refl)
lifetime_in sources.Update h = absurd cc
lifetime_in (sources.Commit parent_hash) h = absurd cc

reference_in : (o : Option (List ℕ)) → is_some o ≡ true → (reference : List ℕ) × (o ≡ Some reference)
reference_in None h = absurd cc
reference_in (Some reference) h = (reference, refl)

module _ (s : State) (required : RequiredCapabilities) (k : KeyPackage) (none : addable_fault s required k ≡ None) where
  pub facts_exist : (facts : PackageFacts) × IsFactsOf k facts
  facts_exist =
      let p = addable_parts s required k none in
      let reference = reference_in (package_ref k) p.encoded in
      let lifetime = lifetime_in k.leaf_node.source p.source in (
        record { reference = reference.0; cipher_suite = k.cipher_suite; lifetime = lifetime.0 },
        record { reference = reference.1; suite = refl; lifetime = lifetime.1 },
      )

  pub signatures_in_group : HasTwoSignatures k
  signatures_in_group = let p = addable_parts s required k none in has_two_signatures k p.source p.encoded

-- ---- a checker that accepts more

pub addable_stays : (G K : VerifyFn) (s : State) (k : KeyPackage) → Extends G K → IsAddable G s k → IsAddable K s k
addable_stays G K s k more a = record { required = a.required; requires = a.requires; no_fault = a.no_fault; signed = signed_stays G K more k a.signed }

pub covered_is_addable : (G K : VerifyFn) (s : State) (k : KeyPackage) (qs : List SignatureToVerify) → IsUnsignedIn G s k qs → Extends G K → AcceptsEach K qs
    → IsAddable K s k
covered_is_addable G K s k qs h more each =
    record {
      required = h.required;
      requires = h.requires;
      no_fault = h.no_fault;
      signed = covered_is_signed G K more k (signatures_in_group s h.required k h.no_fault) (rw (h.signatures) at each);
    }
