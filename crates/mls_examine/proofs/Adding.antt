-- What the steps of an examination of a KeyPackage find out, as the reasons why a group cannot add the client.
use Rattle.std.proofs.Common.{◌≡◌, ◌≢◌, ◌∙◌, ◌↔◌, ℕ, List, [], ◌∷◌, ◌++◌, Bool, true, false, Some, None, Result, Ok, Err, IfErr, OnOk, refl, sym, ap, subst}
use Rattle.std.specs.Prelude.{is_some, if◌then◌else◌, option_map}
use Rattle.std.proofs.lemmas.Option.{none-some}
use Rattle.mls_hash.specs.Suites.{IsSupported, is_supported}
use Rattle.mls_hash.proofs.Suites.{passes_test}
use Rattle.mls_nodes.specs.Requirements.{Requires}
use Rattle.mls_nodes.specs.declared.required_capabilities.RequiredCapabilities.{RequiredCapabilities}
use Rattle.mls_nodes.proofs.RequiredOnce.{Requires-one}
use Rattle.mls_check.specs.Signatures.{VerifyFn}
use Rattle.mls_msgs.specs.declared.key_package.KeyPackage.{KeyPackage}
use Rattle.mls_msgs.specs.declared.strict_rule.StrictRule.{StrictRule}
use Rattle.mls_apply.specs.PackageRefs.{package_ref}
use Rattle.mls_apply.specs.ProposalRules.{is_from_key_package}
use Rattle.mls_apply.specs.RuleLists.{Rule, first_failing}
use Rattle.mls_apply.specs.declared.package_refs.PackageRefFault.{PackageRefFault}
use Rattle.mls_apply.specs.declared.package_refs.PackageRefFault.TheVariants as faults
use Rattle.mls_apply.proofs.RuleLists.{AreOthers, first_failing-left, first_failing-right, no_rules, one_more}
use Rattle.mls_follow.specs.LoneAdd.{CanBeAdded, FailsAdd, lone_add_rules, with_client}
use Rattle.mls_follow.specs.State.{State}
use Rattle.mls_follow.specs.declared.lone_add.AddFault.{AddFault}
use Rattle.mls_follow.specs.declared.lone_add.AddFault.TheVariants as adds
use Rattle.mls_examine.specs.AddablePackages.{IsAddable, IsUnaddable, addable_fault, fit_rules, form_rules_in, group_package_refusal, unfit_add, unfit_add_rules}
use Rattle.mls_examine.specs.GroupInternal.{IsUnfitForm}
use Rattle.mls_examine.specs.Packages.{is_signed, unsigned}
use Rattle.mls_examine.specs.UnfitNumbers.{unreferenced}
use Rattle.mls_examine.specs.declared.unfit.Unfit.{Unfit}
use Rattle.mls_examine.specs.declared.unfit.Unfit.TheVariants as unfit
use Rattle.mls_examine.proofs.Accepting.{signed_if_none, unsigned_if_some}
use Rattle.mls_examine.proofs.ExaminedPackages.{fault_is_reason_in}
use Rattle.mls_examine.proofs.Faults.{apart, is_ruled}
use Rattle.mls_examine.proofs.Signable.{HasTwoSignatures, has_two_signatures}

-- ---- the rules for the tree, by the reasons for which they fail

none_there : (rs : List (Rule AddFault)) (e : AddFault) (b : Bool) → (first_failing rs ≡ None → first_failing (unfit_add_rules rs) ≡ None)
    → (if b then first_failing rs else Some e) ≡ None → (if b then first_failing (unfit_add_rules rs) else Some (unfit_add e)) ≡ None
none_there rs e true rest h = rest h
none_there rs e false rest h = absurd (none-some e (sym h))

pub none_renamed : (rs : List (Rule AddFault)) → first_failing rs ≡ None → first_failing (unfit_add_rules rs) ≡ None
none_renamed [] h = refl
none_renamed (r ∷ rs) h = none_there rs r.refusal r.holds (none_renamed rs) h

one_there : (rs : List (Rule AddFault)) (e f : AddFault) (b : Bool) → (first_failing rs ≡ Some f → first_failing (unfit_add_rules rs) ≡ Some (unfit_add f))
    → (if b then first_failing rs else Some e) ≡ Some f → (if b then first_failing (unfit_add_rules rs) else Some (unfit_add e)) ≡ Some (unfit_add f)
one_there rs e f true rest h = rest h
one_there rs e f false rest h = ap (option_map unfit_add) h

pub first_renamed : (rs : List (Rule AddFault)) (f : AddFault) → first_failing rs ≡ Some f → first_failing (unfit_add_rules rs) ≡ Some (unfit_add f)
first_renamed [] f h = absurd (none-some f h)
first_renamed (r ∷ rs) f h = one_there rs r.refusal f r.holds (first_renamed rs f) h

-- ---- the steps

fit_others : (s : State) (k : KeyPackage) (e : Unfit) → is_ruled e ≡ false → AreOthers e (fit_rules s k)
fit_others s k e other =
    one_more (apart _ e refl other) (one_more (apart _ e refl other) (one_more (apart _ e refl other) (one_more (apart _ e refl other)
    (one_more (apart _ e refl other) (one_more (apart _ e refl other) no_rules)))))

ruled_if_fit : (s : State) (k : KeyPackage) (e : Unfit) (b : Bool) → is_ruled e ≡ b → first_failing (fit_rules s k) ≡ Some e → is_ruled e ≡ true
ruled_if_fit s k e true is h = is
ruled_if_fit s k e false is h = absurd ((fit_others s k e is).never h)

module _ (G : VerifyFn) (s : State) (k : KeyPackage) where
  abbrev of_add : RequiredCapabilities → List (Rule Unfit)
  of_add required = unfit_add_rules (lone_add_rules s required (with_client s k))

  -- the KeyPackage does not fit the group
  pub fit_is_reason : (e : Unfit) → first_failing (fit_rules s k) ≡ Some e → IsUnaddable G s k e
  unfolding addable_fault
  fit_is_reason e h =
      fault_is_reason_in G s k e (ruled_if_fit s k e (is_ruled e) refl h)
      (λ required requires. first_failing-left (fit_rules s k) (of_add required ++ form_rules_in s k) e h)

  module _ (fits : first_failing (fit_rules s k) ≡ None) where
    after_fit : (required : RequiredCapabilities) → addable_fault s required k ≡ first_failing (of_add required ++ form_rules_in s k)
    unfolding addable_fault
    after_fit required = first_failing-right (fit_rules s k) (of_add required ++ form_rules_in s k) fits

    ruled_add : (f : AddFault) → f ≢ adds.OutOfMemory → is_ruled (unfit_add f) ≡ true
    ruled_add adds.TooManyLeaves own = refl
    ruled_add adds.KeyRepeated own = refl
    ruled_add (adds.Member fault) own = refl
    ruled_add adds.OutOfMemory own = absurd (own refl)

    -- the tree after the Add fails a rule
    pub add_is_reason : (f : AddFault) → f ≢ adds.OutOfMemory → FailsAdd s k f → IsUnaddable G s k (unfit_add f)
    add_is_reason f own h =
        fault_is_reason_in G s k (unfit_add f) (ruled_add f own)
        (λ required requires.
        (let fails = subst (λ (own : RequiredCapabilities). first_failing (lone_add_rules s own (with_client s k)) ≡ Some f)
        (Requires-one s.context h.required required h.requires requires) h.fails in
        after_fit required
        ∙ first_failing-left (of_add required) (form_rules_in s k) (unfit_add f) (first_renamed (lone_add_rules s required (with_client s k)) f fails)))

    module _ (can : CanBeAdded s k) where
      after_add : (required : RequiredCapabilities) → Requires s.context required → addable_fault s required k ≡ first_failing (form_rules_in s k)
      after_add required requires =
          let holds = subst (λ (own : RequiredCapabilities). first_failing (lone_add_rules s own (with_client s k)) ≡ None)
          (Requires-one s.context can.required required can.requires requires) can.rules_hold in
          after_fit required
          ∙ first_failing-right (of_add required) (form_rules_in s k) (none_renamed (lone_add_rules s required (with_client s k)) holds)

      ruled_form : (e : Unfit) → is_ruled e ≡ true → first_failing (form_rules_in s k) ≡ Some e → IsUnaddable G s k e
      ruled_form e ruled h = fault_is_reason_in G s k e ruled (λ required requires. after_add required requires ∙ h)

      -- the last rules fail, or the signatures
      pub form_is_reason : (e : Unfit) → e ≢ unfit.OutOfMemory → IsUnfitForm G s k e → IsUnaddable G s k e
      form_is_reason unfit.Malformed own h = ruled_form unfit.Malformed refl h
      form_is_reason unfit.PublicMessage own h = ruled_form unfit.PublicMessage refl h
      form_is_reason unfit.GroupOver own h = ruled_form unfit.GroupOver refl h
      form_is_reason unfit.LastEpoch own h = ruled_form unfit.LastEpoch refl h
      form_is_reason unfit.WrongGroup own h = ruled_form unfit.WrongGroup refl h
      form_is_reason unfit.WrongVersion own h = ruled_form unfit.WrongVersion refl h
      form_is_reason unfit.WrongSuite own h = ruled_form unfit.WrongSuite refl h
      form_is_reason unfit.PastEpoch own h = ruled_form unfit.PastEpoch refl h
      form_is_reason unfit.TreeHashDiffers own h = ruled_form unfit.TreeHashDiffers refl h
      form_is_reason unfit.ConfirmedDiffers own h = ruled_form unfit.ConfirmedDiffers refl h
      form_is_reason unfit.ExtensionsDiffer own h = ruled_form unfit.ExtensionsDiffer refl h
      form_is_reason unfit.TagDiffers own h = ruled_form unfit.TagDiffers refl h
      form_is_reason unfit.SignerNotMember own h = ruled_form unfit.SignerNotMember refl h
      form_is_reason unfit.TreeDiffers own h = ruled_form unfit.TreeDiffers refl h
      form_is_reason (unfit.StartRefused fault) own h = ruled_form (unfit.StartRefused fault) refl h
      form_is_reason unfit.SignerUnknown own h = ruled_form unfit.SignerUnknown refl h
      form_is_reason unfit.ExternalPubInvalid own h = ruled_form unfit.ExternalPubInvalid refl h
      form_is_reason unfit.LeafSource own h = ruled_form unfit.LeafSource refl h
      form_is_reason unfit.InitKeyReused own h = ruled_form unfit.InitKeyReused refl h
      form_is_reason unfit.TooManyLeaves own h = ruled_form unfit.TooManyLeaves refl h
      form_is_reason unfit.KeyRepeated own h = ruled_form unfit.KeyRepeated refl h
      form_is_reason (unfit.Member fault) own h = ruled_form (unfit.Member fault) refl h
      form_is_reason (unfit.Unsigned qs) own h = record {
        required = can.required;
        requires = can.requires;
        no_fault = after_add can.required can.requires ∙ h.0;
        not_signed = h.1;
        signatures = h.2;
      }
      form_is_reason (unfit.Strict r) own h = ruled_form (unfit.Strict r) refl h
      form_is_reason unfit.OutOfMemory own h = absurd (own refl)

      pub is_addable : first_failing (form_rules_in s k) ≡ None → is_signed G k ≡ true → IsAddable G s k
      is_addable form signed = record {
        required = can.required;
        requires = can.requires;
        no_fault = after_add can.required can.requires ∙ form;
        signed = signed;
      }

-- ---- the last step

module _ (G : VerifyFn) (s : State) (k : KeyPackage) where
  pub strict_unmet : (r : StrictRule) → group_package_refusal s.rules s.context k ≡ Some r → first_failing (form_rules_in s k) ≡ Some (unfit.Strict r)
  strict_unmet r e = rw e refl

  module _ (none : group_package_refusal s.rules s.context k ≡ None) where
    pub unencoded : package_ref k ≡ None → first_failing (form_rules_in s k) ≡ Some unfit.Malformed
    unencoded e = rw (none, e) refl

    pub form_holds : (reference : List ℕ) → package_ref k ≡ Some reference → first_failing (form_rules_in s k) ≡ None
    form_holds reference e = rw (none, e) refl

    pub unreferenced_fault : IsSupported k.cipher_suite → (f : PackageRefFault)
        → (◌≡◌ {A = Result (List ℕ) PackageRefFault} (Err f) (Err faults.UnsupportedSuite) ↔ (is_supported k.cipher_suite ≡ false))
        → (◌≡◌ {A = Result (List ℕ) PackageRefFault} (Err f) (Err faults.TooLong) → package_ref k ≡ None)
        → unreferenced f ≢ unfit.OutOfMemory → IsUnfitForm G s k (unreferenced f)
    unreferenced_fault supported faults.UnsupportedSuite unsupported too_long other =
        let bad = sym (passes_test k.cipher_suite supported) ∙ unsupported.0 refl in absurd cc
    unreferenced_fault supported faults.TooLong unsupported too_long other = unencoded (too_long refl)
    unreferenced_fault supported faults.OutOfMemory unsupported too_long other = absurd (other refl)

    module _ (source : is_from_key_package k.leaf_node.source ≡ true) (reference : List ℕ) (has : package_ref k ≡ Some reference) where
      two : HasTwoSignatures k
      two = has_two_signatures k source (ap is_some has)

      pub all_signed : unsigned G k ≡ [] → is_signed G k ≡ true
      all_signed all = signed_if_none G k two all

      pub not_all_signed : (unsigned G k ≡ [] → ⊥) → is_signed G k ≡ false
      not_all_signed some = unsigned_if_some G k two some

-- ---- the answer, as the last step returns it

module _ {A : Type 0} (G K : VerifyFn) (s t : State) (k : KeyPackage) (same : t ≡ s) (alike : K ≡ G)
    (fits : first_failing (fit_rules s k) ≡ None) (can : CanBeAdded s k) where
  pub answered_unfit : (r : Result A Unfit) → IfErr r (λ e. e ≢ unfit.OutOfMemory → IsUnfitForm K t k e)
      → IfErr r (λ e. e ≢ unfit.OutOfMemory → IsUnaddable G s k e)
  answered_unfit (Ok x) h = tt
  answered_unfit (Err e) h = λ own.
      form_is_reason G s k fits can e own (subst (λ (F : VerifyFn). IsUnfitForm F s k e) alike (subst (λ (u : State). IsUnfitForm K u k e) same (h own)))

  pub answered_addable : (r : Result A Unfit) → OnOk r (first_failing (form_rules_in t k) ≡ None) → OnOk r (is_signed K k ≡ true) → OnOk r (IsAddable G s k)
  answered_addable (Ok x) form signed =
      is_addable G s k fits can (subst (λ (u : State). first_failing (form_rules_in u k) ≡ None) same form) (subst (λ (F : VerifyFn). is_signed F k ≡ true) alike signed)
  answered_addable (Err e) form signed = tt
