-- Signatures that a checker accepts, in a list and in the list without its duplicates.
use Rattle.std.proofs.Common.{◌≡◌, ◌∙◌, List, [], ◌∷◌, ◌++◌, Bool, true, false, cond, not, refl, sym, ap, subst, append_assoc}
use Rattle.std.specs.Prelude.{◌||◌, filter}
use Rattle.std.proofs.lemmas.Bool.{false≢true, or_left, or_right}
use Rattle.std.proofs.lemmas.List.Elements.{filter-append}
use Rattle.mls_check.specs.Signatures.{VerifyFn}
use Rattle.mls_check.proofs.Elements.{and-left, and-right}
use Rattle.mls_signatures.specs.AcceptedSignatures.{are_accepted, is_accepted, unaccepted}
use Rattle.mls_signatures.specs.SignaturesToVerify.{deduplicated, is_same, without_signature}
use Rattle.mls_signatures.specs.declared.signature_to_verify.SignatureToVerify.{SignatureToVerify}
use Rattle.mls_signatures.proofs.Agreement.{same_is}
use Rattle.mls_signatures.proofs.DuplicateMarks.{is_met}
use Rattle.mls_signatures.proofs.Repeats.{AllMet}

-- one test after another
module _ {X : Type 0} (p r : X → Bool) where
  swapped_one : (x : X) (xs : List X) → filter p (filter r xs) ≡ filter r (filter p xs) → (a b : Bool) → p x ≡ a → r x ≡ b
      → filter p (cond b (x ∷ filter r xs) (filter r xs)) ≡ filter r (cond a (x ∷ filter p xs) (filter p xs))
  swapped_one x xs same true true e f =
      ap (λ c. cond c (x ∷ filter p (filter r xs)) (filter p (filter r xs))) e
      ∙ ap (λ ys. x ∷ ys) same
      ∙ sym (ap (λ c. cond c (x ∷ filter r (filter p xs)) (filter r (filter p xs))) f)
  swapped_one x xs same true false e f = same ∙ sym (ap (λ c. cond c (x ∷ filter r (filter p xs)) (filter r (filter p xs))) f)
  swapped_one x xs same false true e f = ap (λ c. cond c (x ∷ filter p (filter r xs)) (filter p (filter r xs))) e ∙ same
  swapped_one x xs same false false e f = same

  swapped : (xs : List X) → filter p (filter r xs) ≡ filter r (filter p xs)
  swapped [] = refl
  swapped (x ∷ xs) = swapped_one x xs (swapped xs) (p x) (r x) refl refl

module _ (G : VerifyFn) where
  -- one that is accepted, and one that is not
  skipped : (q : SignatureToVerify) (qs : List SignatureToVerify) → is_accepted G q ≡ true → unaccepted G (q ∷ qs) ≡ unaccepted G qs
  skipped q qs e = ap (λ b. cond (not b) (q ∷ unaccepted G qs) (unaccepted G qs)) e

  kept : (q : SignatureToVerify) (qs : List SignatureToVerify) → is_accepted G q ≡ false → unaccepted G (q ∷ qs) ≡ q ∷ unaccepted G qs
  kept q qs e = ap (λ b. cond (not b) (q ∷ unaccepted G qs) (unaccepted G qs)) e

  pub none_left : (qs : List SignatureToVerify) → are_accepted G qs ≡ true → unaccepted G qs ≡ []
  none_left [] e = refl
  none_left (q ∷ qs) e =
      skipped q qs (and-left (is_accepted G q) (are_accepted G qs) e) ∙ none_left qs (and-right (is_accepted G q) (are_accepted G qs) e)

  pub unaccepted_both : (xs ys : List SignatureToVerify) → unaccepted G (xs ++ ys) ≡ unaccepted G xs ++ unaccepted G ys
  unaccepted_both xs ys = filter-append (λ q. not (is_accepted G q)) xs ys

  pub unaccepted_three : (xs ys zs : List SignatureToVerify)
      → unaccepted G (xs ++ (ys ++ zs)) ≡ (unaccepted G xs ++ unaccepted G ys) ++ unaccepted G zs
  unaccepted_three xs ys zs =
      unaccepted_both xs (ys ++ zs)
      ∙ ap (λ ws. unaccepted G xs ++ ws) (unaccepted_both ys zs)
      ∙ sym (append_assoc (unaccepted G xs) (unaccepted G ys) (unaccepted G zs))

  -- ---- without duplicates

  dropped_one : (a q : SignatureToVerify) (others qs : List SignatureToVerify) → is_accepted G a ≡ true → unaccepted G others ≡ unaccepted G qs → (b : Bool) → is_same a q ≡ b
      → unaccepted G (cond (not b) (q ∷ others) others) ≡ unaccepted G (q ∷ qs)
  dropped_one a q others qs e same true f =
      same ∙ sym (skipped q qs (subst (λ (r : SignatureToVerify). is_accepted G r ≡ true) (same_is a q f) e))
  dropped_one a q others qs e same false f = ap (λ ws. cond (not (is_accepted G q)) (q ∷ ws) ws) same

  dropped : (a : SignatureToVerify) (qs : List SignatureToVerify) → is_accepted G a ≡ true → unaccepted G (without_signature a qs) ≡ unaccepted G qs
  dropped a [] e = refl
  dropped a (q ∷ qs) e = dropped_one a q (without_signature a qs) qs e (dropped a qs e) (is_same a q) refl

  first_one : (q : SignatureToVerify) (qs : List SignatureToVerify) → unaccepted G (deduplicated qs) ≡ deduplicated (unaccepted G qs)
      → (b : Bool) → is_accepted G q ≡ b
      → cond (not b) (q ∷ unaccepted G (without_signature q (deduplicated qs))) (unaccepted G (without_signature q (deduplicated qs)))
      ≡ deduplicated (cond (not b) (q ∷ unaccepted G qs) (unaccepted G qs))
  first_one q qs same true e = dropped q (deduplicated qs) e ∙ same
  first_one q qs same false e =
      ap (λ (ws : List SignatureToVerify). q ∷ ws) (swapped (λ r. not (is_accepted G r)) (λ r. not (is_same q r)) (deduplicated qs))
      ∙ ap (λ (ws : List SignatureToVerify). q ∷ without_signature q ws) same

  pub unaccepted_deduplicated : (qs : List SignatureToVerify) → unaccepted G (deduplicated qs) ≡ deduplicated (unaccepted G qs)
  unaccepted_deduplicated [] = refl
  unaccepted_deduplicated (q ∷ qs) = first_one q qs (unaccepted_deduplicated qs) (is_accepted G q) refl

  -- ---- one that is met in a list

  met_one : (q : SignatureToVerify) → is_accepted G q ≡ false → (w : SignatureToVerify) (ws : List SignatureToVerify)
      → (is_met ws q ≡ true → is_met (unaccepted G ws) q ≡ true) → (b c : Bool) → is_same w q ≡ b → is_accepted G w ≡ c
      → (b || is_met ws q) ≡ true → is_met (cond (not c) (w ∷ unaccepted G ws) (unaccepted G ws)) q ≡ true
  met_one q e w ws later true true f g m =
      absurd (false≢true (sym (subst (λ (r : SignatureToVerify). is_accepted G r ≡ false) (sym (same_is w q f)) e) ∙ g))
  met_one q e w ws later true false f g m = or_left (is_same w q) (is_met (unaccepted G ws) q) f
  met_one q e w ws later false true f g m = later m
  met_one q e w ws later false false f g m = or_right (is_same w q) (is_met (unaccepted G ws) q) (later m)

  met_kept : (q : SignatureToVerify) → is_accepted G q ≡ false → (ws : List SignatureToVerify) → is_met ws q ≡ true → is_met (unaccepted G ws) q ≡ true
  met_kept q e [] m = absurd (false≢true m)
  met_kept q e (w ∷ ws) m = met_one q e w ws (met_kept q e ws) (is_same w q) (is_accepted G w) refl refl m

  all_one : (ws : List SignatureToVerify) (q : SignatureToVerify) (qs : List SignatureToVerify) → is_met ws q ≡ true → AllMet (unaccepted G ws) (unaccepted G qs)
      → (b : Bool) → is_accepted G q ≡ b → AllMet (unaccepted G ws) (cond (not b) (q ∷ unaccepted G qs) (unaccepted G qs))
  all_one ws q qs m rest true e = rest
  all_one ws q qs m rest false e = (met_kept q e ws m, rest)

  pub all_kept : (ws qs : List SignatureToVerify) → AllMet ws qs → AllMet (unaccepted G ws) (unaccepted G qs)
  all_kept ws [] m = tt
  all_kept ws (q ∷ qs) m = all_one ws q qs m.0 (all_kept ws qs m.1) (is_accepted G q) refl
