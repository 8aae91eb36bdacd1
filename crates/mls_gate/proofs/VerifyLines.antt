-- The lines of signatures that are made one after the other, and their number.
use Rattle.std.proofs.Common.{◌≡◌, ◌∙◌, ℕ, ◌+◌, ◌≤◌, List, [], ◌∷◌, ◌++◌, length, Bool, true, false, Option, refl, sym, ap, subst, arith, append_assoc, append-nil, length-append}
use Rattle.std.proofs.lemmas.List.{nil_from_length}
use Rattle.std.specs.Prelude.{codes, if◌then◌else◌}
use Rattle.std.specs.Io.KnownBytes.{Appends}
use Rattle.mls_wire.specs.Devices.{AppendsPrefix}
use Rattle.mls_check.specs.Signatures.{VerifyFn}
use Rattle.mls_signatures.specs.declared.signature_to_verify.SignatureToVerify.{SignatureToVerify}
use Rattle.mls_report.specs.SignaturesReport.{signature_line}
use Rattle.mls_report.specs.SignaturesSteps.{LinesWithoutMemory, StopsInLines}
use Rattle.mls_report.proofs.Replaying.{Appends-nil}
use Rattle.mls_report.proofs.StartLines.{prefix-more, prefix-behind, wrote-both, stops-before, stops-behind}
use Rattle.mls_wire.specs.declared.fault.RunFault.{RunFault}
use Rattle.mls_wire.specs.declared.fault.RunFault.TheVariants.{Read, Write, Memory}
use Rattle.mls_gate.specs.Answers.{is_known, verify_line, verify_lines, query_count_line, query_text, unknown_count}
use Rattle.mls_gate.specs.GateSteps.{StopsInQueryText}

-- ---- the lines of a list, and their number

verify_lines-both : (G : VerifyFn) (ws vs : List SignatureToVerify) → verify_lines G (ws ++ vs) ≡ verify_lines G ws ++ verify_lines G vs
verify_lines-both G [] vs = refl
verify_lines-both G (w ∷ ws) vs =
    ap (λ (text : List ℕ). verify_line G w ++ text) (verify_lines-both G ws vs)
    ∙ sym (append_assoc (verify_line G w) (verify_lines G ws) (verify_lines G vs))

unknown_count-both : (G : VerifyFn) (ws vs : List SignatureToVerify) → unknown_count G (ws ++ vs) ≡ unknown_count G ws + unknown_count G vs
unknown_count-both G [] vs = omega arith
unknown_count-both G (w ∷ ws) vs =
    let rest = unknown_count-both G ws vs in
    omega (arith, rest)

-- ---- the signatures that were made so far

-- they are the first `n` of a list, and their lines were written
pub record Made (G : VerifyFn) (all left : List SignatureToVerify) (n count : ℕ) (w0 w1 : Option (List ℕ)) : Type 0 where
  pub front : List SignatureToVerify
  pub split : all ≡ front ++ left
  pub number : n ≡ length front
  pub count_is : count ≡ unknown_count G front
  pub few : count ≤ n
  pub wrote : Appends w0 w1 (verify_lines G front)

pub none-made : (G : VerifyFn) (all : List SignatureToVerify) (w : Option (List ℕ)) → Made G all all 0 0 w w
none-made G all w = record { front = []; split = refl; number = refl; count_is = refl; few = omega arith; wrote = Appends-nil w }

module _ (G : VerifyFn) (all left : List SignatureToVerify) (n count : ℕ) (w0 w1 : Option (List ℕ)) (m : Made G all left n count w0 w1) where
  pub lines-memory : StopsInLines (verify_lines G) all w0 w1 Memory
  lines-memory = record { front = m.front; rest = left; split = m.split; wrote = m.wrote }

  -- as many were made as there are
  pub none-left : length all ≤ n → left ≡ []
  none-left le =
      let split = ap (λ (ws : List SignatureToVerify). length ws) m.split in
      let number = m.number in
      nil_from_length left (omega (arith, split, number, le, length-append m.front left))

  whole : left ≡ [] → all ≡ m.front
  whole e = m.split ∙ ap (λ (ws : List SignatureToVerify). m.front ++ ws) e ∙ append-nil m.front

  pub lines-all : left ≡ [] → Appends w0 w1 (verify_lines G all)
  lines-all e = subst (λ (ws : List SignatureToVerify). Appends w0 w1 (verify_lines G ws)) (sym (whole e)) m.wrote

  pub count-all : left ≡ [] → count ≡ unknown_count G all
  count-all e = m.count_is ∙ ap (unknown_count G) (sym (whole e))

  -- one signature more
  module _ (w : SignatureToVerify) (rest : List SignatureToVerify) (next : left ≡ w ∷ rest) where
    split-more : all ≡ (m.front ++ w ∷ []) ++ rest
    split-more = m.split ∙ ap (λ (ws : List SignatureToVerify). m.front ++ ws) next ∙ sym (append_assoc m.front (w ∷ []) rest)

    more : (new added : ℕ) (text : List ℕ) (w2 : Option (List ℕ)) → new ≡ count + added → added ≤ 1 → unknown_count G (w ∷ []) ≡ added
        → verify_lines G (w ∷ []) ≡ text → Appends w1 w2 text → Made G all rest (n + 1) new w0 w2
    more new added text w2 same le one is wrote =
        let number = m.number in
        let few = m.few in
        record {
          front = m.front ++ w ∷ [];
          split = split-more;
          number = omega (arith, number, length-append m.front (w ∷ []));
          count_is = same ∙ (λ k. m.count_is k + sym one k) ∙ sym (unknown_count-both G m.front (w ∷ []));
          few = omega (arith, few, same, le);
          wrote = wrote-both (verify_lines G) (verify_lines-both G) w0 w1 w2 m.front (w ∷ []) m.wrote (subst (Appends w1 w2) (sym is) wrote);
        }

    pub made-known : is_known G w ≡ true → Made G all rest (n + 1) count w0 w1
    made-known known =
        more count 0 [] w1 (omega arith) (omega arith) (ap (λ (b : Bool). (if b then 0 else 1) + 0) known)
        (ap (λ (b : Bool). (if b then [] else codes "verify " ++ signature_line w) ++ []) known) (Appends-nil w1)

    abbrev line : List ℕ
    line = codes "verify " ++ signature_line w

    line-is : is_known G w ≡ false → verify_lines G (w ∷ []) ≡ line
    line-is unknown = ap (λ (b : Bool). (if b then [] else line) ++ []) unknown ∙ append-nil line

    pub made-unknown : (w2 : Option (List ℕ)) → is_known G w ≡ false → Appends w1 w2 line → Made G all rest (n + 1) (count + 1) w0 w2
    made-unknown w2 unknown wrote =
        more (count + 1) 1 line w2 refl (omega arith) (ap (λ (b : Bool). (if b then 0 else 1) + 0) unknown) (line-is unknown) wrote

    pub lines-write : (w2 : Option (List ℕ)) → is_known G w ≡ false → AppendsPrefix w1 w2 line → StopsInLines (verify_lines G) all w0 w2 Write
    lines-write w2 unknown part =
        subst (λ (ws : List SignatureToVerify). AppendsPrefix w0 w2 (verify_lines G ws)) (sym split-more)
        (stops-before (verify_lines G) (verify_lines-both G) w0 w2 (m.front ++ w ∷ []) rest Write
        (stops-behind (verify_lines G) (verify_lines-both G) w0 w1 w2 m.front (w ∷ []) Write m.wrote (subst (AppendsPrefix w1 w2) (sym (line-is unknown)) part)))

-- ---- and the last line

module _ (G : VerifyFn) (signatures : List SignatureToVerify) where
  pub in-lines : (a b : Option (List ℕ)) (fault : RunFault) → StopsInLines (verify_lines G) signatures a b fault → StopsInQueryText G signatures a b fault
  in-lines a b Read p = absurd p
  in-lines a b Write p = prefix-more a b (verify_lines G signatures) (query_count_line (unknown_count G signatures)) p
  in-lines a b Memory p = p

  -- the lines of the signatures were written, but not the last one
  pub before-count : (a b : Option (List ℕ)) → Appends a b (verify_lines G signatures) → LinesWithoutMemory (verify_lines G) signatures a b
  before-count a b w = record { front = signatures; rest = []; split = sym (append-nil signatures); wrote = w }

  pub in-count : (a b c : Option (List ℕ)) → Appends a b (verify_lines G signatures) → AppendsPrefix b c (query_count_line (unknown_count G signatures))
      → AppendsPrefix a c (query_text G signatures)
  in-count a b c w p = prefix-behind a b c (verify_lines G signatures) (query_count_line (unknown_count G signatures)) w p
