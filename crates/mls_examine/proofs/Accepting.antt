-- Whether the signatures of a KeyPackage are good, by those that a checker does not accept.
use Rattle.std.proofs.Common.{◌≡◌, ◌∙◌, List, [], ◌∷◌, Bool, true, false, ◌&&◌, Option, Some, None, refl, sym, ap, subst, inl, inr}
use Rattle.std.specs.Prelude.{ℕ, filter, not, if◌then◌else◌}
use Rattle.std.proofs.lemmas.Bool.{cases_Bool}
use Rattle.std.proofs.lemmas.List.Elements.{All-cons, All-head, All-tail}
use Rattle.mls_check.specs.LeafValidation.{is_leaf_signed}
use Rattle.mls_check.specs.Signatures.{Extends, VerifyFn, is_good, is_signed_text, sign_content}
use Rattle.mls_check.proofs.Elements.{and-left, and-right}
use Rattle.mls_msgs.specs.declared.key_package.KeyPackage.{KeyPackage}
use Rattle.mls_apply.specs.ProposalRules.{is_package_signed}
use Rattle.mls_signatures.specs.declared.signature_to_verify.SignatureToVerify.{SignatureToVerify}
use Rattle.mls_examine.specs.PackageLaws.{AcceptsEach}
use Rattle.mls_examine.specs.Packages.{is_accepted, is_signed, unsigned}
use Rattle.mls_examine.proofs.Signable.{HasTwoSignatures}

-- those of a list that are not accepted
rejected : VerifyFn → List SignatureToVerify → List SignatureToVerify
rejected G qs = filter (λ q. not (is_accepted G q)) qs

-- ---- two signatures

module _ (G : VerifyFn) (a b : SignatureToVerify) where
  none_rejected : rejected G (a ∷ b ∷ []) ≡ [] → (is_accepted G a && is_accepted G b) ≡ true
  unfolding rejected
  none_rejected h =
      elim (cases_Bool (is_accepted G a)) [
        | inl holds ↦
            elim (cases_Bool (is_accepted G b)) [
              | inl also ↦ rw (holds, also) refl
              | inr fails ↦ let bad = rw (holds, fails) at h in absurd cc
            ]
        | inr fails ↦ let bad = rw fails at h in absurd cc
      ]

  all_accepted : (is_accepted G a && is_accepted G b) ≡ true → rejected G (a ∷ b ∷ []) ≡ []
  unfolding rejected
  all_accepted h = rw (and-left (is_accepted G a) (is_accepted G b) h, and-right (is_accepted G a) (is_accepted G b) h) refl

module _ (G : VerifyFn) (k : KeyPackage) (two : HasTwoSignatures k) where
  rejected_of_two : unsigned G k ≡ rejected G (two.of_leaf ∷ two.own ∷ [])
  unfolding rejected
  rejected_of_two = ap (rejected G) two.list

  pub signed_if_none : unsigned G k ≡ [] → is_signed G k ≡ true
  signed_if_none h = two.good G ∙ none_rejected G two.of_leaf two.own (sym rejected_of_two ∙ h)

  none_if_signed : is_signed G k ≡ true → unsigned G k ≡ []
  none_if_signed h = rejected_of_two ∙ all_accepted G two.of_leaf two.own (sym (two.good G) ∙ h)

  pub unsigned_if_some : (unsigned G k ≡ [] → ⊥) → is_signed G k ≡ false
  unsigned_if_some some =
      elim (cases_Bool (is_signed G k)) [
        | inl holds ↦ absurd (some (none_if_signed holds))
        | inr fails ↦ fails
      ]

-- ---- a checker that accepts more

module _ (G K : VerifyFn) (more : Extends G K) where
  good_stays : (suite : ℕ) (key signature : List ℕ) (o : Option (List ℕ)) → is_good G suite key signature o ≡ true → is_good K suite key signature o ≡ true
  good_stays suite key signature None h = h
  good_stays suite key signature (Some content) h = more suite key content signature h

  pub text_stays : (suite : ℕ) (key label : List ℕ) (o : Option (List ℕ)) (signature : List ℕ) → is_signed_text G suite key label o signature ≡ true
      → is_signed_text K suite key label o signature ≡ true
  text_stays suite key label None signature h = h
  text_stays suite key label (Some tbs) signature h = good_stays suite key signature (sign_content label tbs) h

  both_true : (a b : Bool) → a ≡ true → b ≡ true → (a && b) ≡ true
  both_true a b holds also = rw (holds, also) refl

  pub signed_stays : (k : KeyPackage) → is_signed G k ≡ true → is_signed K k ≡ true
  unfolding is_leaf_signed is_package_signed
  signed_stays k h =
      let x = k.leaf_node in
      let one = is_leaf_signed G k.cipher_suite [] 0 x in
      let other = is_package_signed G k.cipher_suite k in
      both_true _ _
      (text_stays _ _ _ _ _ (and-left one other h))
      (text_stays _ _ _ _ _ (and-right one other h))

  -- what it accepts besides those that the other one does not
  accepts_all : (qs : List SignatureToVerify) → AcceptsEach K (rejected G qs) → AcceptsEach K qs
  unfolding rejected
  accepts_all [] h = h
  accepts_all (q ∷ qs) h =
      elim (cases_Bool (is_accepted G q)) [
        | inl holds ↦
            All-cons (λ p. is_accepted K p ≡ true) q qs (more q.suite q.key q.content q.signature holds)
            (accepts_all qs (subst (λ (b : Bool). AcceptsEach K (if not b then q ∷ rejected G qs else rejected G qs)) holds h))
        | inr fails ↦
            let listed = subst (λ (b : Bool). AcceptsEach K (if not b then q ∷ rejected G qs else rejected G qs)) fails h in
            All-cons (λ p. is_accepted K p ≡ true) q qs (All-head (λ p. is_accepted K p ≡ true) q (rejected G qs) listed)
            (accepts_all qs (All-tail (λ p. is_accepted K p ≡ true) q (rejected G qs) listed))
      ]

  pub covered_is_signed : (k : KeyPackage) → HasTwoSignatures k → AcceptsEach K (unsigned G k) → is_signed K k ≡ true
  unfolding rejected
  covered_is_signed k two h =
      let each = accepts_all (two.of_leaf ∷ two.own ∷ []) (subst (λ (qs : List SignatureToVerify). AcceptsEach K (rejected G qs)) two.list h) in
      two.good K ∙ both_true _ _
      (All-head (λ p. is_accepted K p ≡ true) two.of_leaf (two.own ∷ []) each)
      (All-head (λ p. is_accepted K p ≡ true) two.own [] (All-tail (λ p. is_accepted K p ≡ true) two.of_leaf (two.own ∷ []) each))
