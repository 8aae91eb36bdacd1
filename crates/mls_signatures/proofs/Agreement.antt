-- Lists of signatures on which two verification functions agree.
use Rattle.std.proofs.Common.{◌≡◌, List, [], ◌∷◌, ◌++◌, Bool, true, false, cond, not, refl, subst}
use Rattle.std.specs.Prelude.{◌↔◌, ◌==◌, ◌&&◌, if◌then◌else◌}
use Rattle.std.specs.Str.{bytes_eq}
use Rattle.std.proofs.lemmas.Bool.{eqb-true}
use Rattle.std.proofs.lemmas.List.Elements.{All-nil, All-cons, All-head, All-tail, All-filter}
use Rattle.std.proofs.lemmas.Slice.Eq.{bytes_eq-Decides}
use Rattle.mls_check.specs.Signatures.{VerifyFn}
use Rattle.mls_check.proofs.Elements.{and-left, and-right}
use Rattle.mls_signatures.specs.Agreement.{Agrees, AgreeOn}
use Rattle.mls_signatures.specs.SignaturesToVerify.{is_same, without_signature, deduplicated}
use Rattle.mls_signatures.specs.declared.signature_to_verify.SignatureToVerify.{SignatureToVerify}

same_parts : (a b : SignatureToVerify) → a.suite ≡ b.suite → a.key ≡ b.key → a.content ≡ b.content → a.signature ≡ b.signature → a ≡ b
same_parts a b p q r s = λ i. record { suite = p i; key = q i; content = r i; signature = s i }

-- those that are the same are equal
pub same_is : (a b : SignatureToVerify) → is_same a b ≡ true → a ≡ b
same_is a b e =
    let signature = and-right (a.suite == b.suite && bytes_eq a.key b.key && bytes_eq a.content b.content) (bytes_eq a.signature b.signature) e in
    let three = and-left (a.suite == b.suite && bytes_eq a.key b.key && bytes_eq a.content b.content) (bytes_eq a.signature b.signature) e in
    let content = and-right (a.suite == b.suite && bytes_eq a.key b.key) (bytes_eq a.content b.content) three in
    let two = and-left (a.suite == b.suite && bytes_eq a.key b.key) (bytes_eq a.content b.content) three in
    same_parts a b (eqb-true a.suite b.suite (and-left (a.suite == b.suite) (bytes_eq a.key b.key) two))
    ((bytes_eq-Decides a.key b.key).0 (and-right (a.suite == b.suite) (bytes_eq a.key b.key) two))
    ((bytes_eq-Decides a.content b.content).0 content)
    ((bytes_eq-Decides a.signature b.signature).0 signature)

module _ (G K : VerifyFn) where
  -- the first part of a list, and the rest
  pub front : (xs ys : List SignatureToVerify) → AgreeOn G K (xs ++ ys) → AgreeOn G K xs
  front [] ys h = All-nil (Agrees G K)
  front (x ∷ xs) ys h =
      All-cons (Agrees G K) x xs (All-head (Agrees G K) x (xs ++ ys) h) (front xs ys (All-tail (Agrees G K) x (xs ++ ys) h))

  pub back : (xs ys : List SignatureToVerify) → AgreeOn G K (xs ++ ys) → AgreeOn G K ys
  back [] ys h = h
  back (x ∷ xs) ys h = back xs ys (All-tail (Agrees G K) x (xs ++ ys) h)

  -- a list that is given if a test holds
  pub given : (b : Bool) (qs : List SignatureToVerify) → b ≡ true → AgreeOn G K (if b then qs else []) → AgreeOn G K qs
  given true qs e h = h
  given false qs e h = absurd (cc)

  back_in : (a q : SignatureToVerify) (qs : List SignatureToVerify) → Agrees G K a → (AgreeOn G K (without_signature a qs) → AgreeOn G K qs)
      → (b : Bool) → is_same a q ≡ b → AgreeOn G K (cond (not b) (q ∷ without_signature a qs) (without_signature a qs)) → AgreeOn G K (q ∷ qs)
  back_in a q qs here rest true e h = All-cons (Agrees G K) q qs (subst (λ r. Agrees G K r) (same_is a q e) here) (rest h)
  back_in a q qs here rest false e h =
      All-cons (Agrees G K) q qs (All-head (Agrees G K) q (without_signature a qs) h) (rest (All-tail (Agrees G K) q (without_signature a qs) h))

  -- what is left out is the same as one that they answer alike
  with_same : (a : SignatureToVerify) (qs : List SignatureToVerify) → Agrees G K a → AgreeOn G K (without_signature a qs) → AgreeOn G K qs
  with_same a [] here h = h
  with_same a (q ∷ qs) here h = back_in a q qs here (with_same a qs here) (is_same a q) refl h

  pub from_deduplicated : (qs : List SignatureToVerify) → AgreeOn G K (deduplicated qs) → AgreeOn G K qs
  from_deduplicated [] h = h
  from_deduplicated (q ∷ qs) h =
      let here = All-head (Agrees G K) q (without_signature q (deduplicated qs)) h in
      All-cons (Agrees G K) q qs here (from_deduplicated qs (with_same q (deduplicated qs) here (All-tail (Agrees G K) q (without_signature q (deduplicated qs)) h)))

  pub to_deduplicated : (qs : List SignatureToVerify) → AgreeOn G K qs → AgreeOn G K (deduplicated qs)
  to_deduplicated [] h = h
  to_deduplicated (q ∷ qs) h =
      All-cons (Agrees G K) q (without_signature q (deduplicated qs)) (All-head (Agrees G K) q qs h)
      (All-filter (λ r. not (is_same q r)) (Agrees G K) (deduplicated qs) (to_deduplicated qs (All-tail (Agrees G K) q qs h)))

pub duplicates_are_irrelevant : (G K : VerifyFn) (qs : List SignatureToVerify) → AgreeOn G K (deduplicated qs) ↔ AgreeOn G K qs
duplicates_are_irrelevant G K qs = (from_deduplicated G K qs, to_deduplicated G K qs)
