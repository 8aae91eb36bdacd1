-- The records of a query are those of the signatures that are not accepted.
use Rattle.std.proofs.Common.{◌≡◌, ◌∙◌, List, [], ◌∷◌, ◌++◌, Bool, true, false, cond, not, refl, sym, ap}
use Rattle.std.specs.Prelude.{if◌then◌else◌}
use Rattle.mls_check.specs.Signatures.{VerifyFn}
use Rattle.mls_signatures.specs.AcceptedSignatures.{is_accepted, unaccepted}
use Rattle.mls_signatures.specs.declared.signature_to_verify.SignatureToVerify.{SignatureToVerify}
use Rattle.mls_c.specs.Queries.{query_records, signature_record}

module _ (G : VerifyFn) where
  record_left : (q : SignatureToVerify) (qs : List SignatureToVerify) → query_records G qs ≡ query_records G (unaccepted G qs) → (b : Bool) → is_accepted G q ≡ b
      → (if b then [] else signature_record q) ++ query_records G qs ≡ query_records G (cond (not b) (q ∷ unaccepted G qs) (unaccepted G qs))
  record_left q qs same true e = same
  record_left q qs same false e = λ i. (if sym e i then [] else signature_record q) ++ same i

  records_left : (qs : List SignatureToVerify) → query_records G qs ≡ query_records G (unaccepted G qs)
  records_left [] = refl
  records_left (q ∷ qs) = record_left q qs (records_left qs) (is_accepted G q) refl

  pub records_same : (xs ys : List SignatureToVerify) → unaccepted G xs ≡ unaccepted G ys → query_records G xs ≡ query_records G ys
  records_same xs ys e = records_left xs ∙ ap (query_records G) e ∙ sym (records_left ys)
