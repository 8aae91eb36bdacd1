-- The lines of a query are those of the signatures that are not accepted.
use Rattle.std.proofs.Common.{◌≡◌, ◌∙◌, ℕ, List, [], ◌∷◌, ◌++◌, Bool, true, false, cond, not, arith, refl, sym, ap}
use Rattle.std.specs.Prelude.{◌+◌, codes, if◌then◌else◌}
use Rattle.mls_check.specs.Signatures.{VerifyFn}
use Rattle.mls_report.specs.SignaturesReport.{signature_line}
use Rattle.mls_signatures.specs.AcceptedSignatures.{is_accepted, unaccepted}
use Rattle.mls_signatures.specs.declared.signature_to_verify.SignatureToVerify.{SignatureToVerify}
use Rattle.mls_gate.specs.Answers.{query_count_line, query_text, unknown_count, verify_lines}

nothing_more : (n : ℕ) → 0 + n ≡ n
nothing_more n = omega arith

module _ (G : VerifyFn) where
  line_left : (q : SignatureToVerify) (qs : List SignatureToVerify) → verify_lines G qs ≡ verify_lines G (unaccepted G qs) → (b : Bool) → is_accepted G q ≡ b
      → (if b then [] else codes "verify " ++ signature_line q) ++ verify_lines G qs ≡ verify_lines G (cond (not b) (q ∷ unaccepted G qs) (unaccepted G qs))
  line_left q qs same true e = same
  line_left q qs same false e =
      (λ i. (if sym e i then [] else codes "verify " ++ signature_line q) ++ same i)

  lines_left : (qs : List SignatureToVerify) → verify_lines G qs ≡ verify_lines G (unaccepted G qs)
  lines_left [] = refl
  lines_left (q ∷ qs) = line_left q qs (lines_left qs) (is_accepted G q) refl

  one_left : (q : SignatureToVerify) (qs : List SignatureToVerify) → unknown_count G qs ≡ unknown_count G (unaccepted G qs) → (b : Bool) → is_accepted G q ≡ b
      → (if b then 0 else 1) + unknown_count G qs ≡ unknown_count G (cond (not b) (q ∷ unaccepted G qs) (unaccepted G qs))
  one_left q qs same true e = nothing_more (unknown_count G qs) ∙ same
  one_left q qs same false e = λ i. (if sym e i then 0 else 1) + same i

  count_left : (qs : List SignatureToVerify) → unknown_count G qs ≡ unknown_count G (unaccepted G qs)
  count_left [] = refl
  count_left (q ∷ qs) = one_left q qs (count_left qs) (is_accepted G q) refl

  text_left : (qs : List SignatureToVerify) → query_text G qs ≡ query_text G (unaccepted G qs)
  text_left qs = λ i. lines_left qs i ++ query_count_line (count_left qs i)

  pub text_same : (xs ys : List SignatureToVerify) → unaccepted G xs ≡ unaccepted G ys → query_text G xs ≡ query_text G ys
  text_same xs ys e = text_left xs ∙ ap (query_text G) e ∙ sym (text_left ys)
