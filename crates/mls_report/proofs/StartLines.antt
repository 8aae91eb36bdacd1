-- Lines that are written one signature after the other.
use Rattle.std.proofs.Common.{◌≡◌, ◌∙◌, ℕ, List, [], ◌∷◌, ◌++◌, Option, Result, Ok, Err, refl, sym, ap, subst, append_assoc, append-nil}
use Rattle.std.specs.Prelude.{OnErr, IfErr}
use Rattle.std.specs.Io.KnownBytes.{Appends}
use Rattle.mls_wire.proofs.KnownBytes.{Appends-trans}
use Rattle.mls_wire.specs.Devices.{AppendsPrefix}
use Rattle.mls_check.specs.Signatures.{VerifyFn}
use Rattle.mls_signatures.specs.declared.signature_to_verify.SignatureToVerify.{SignatureToVerify}
use Rattle.mls_report.specs.PackagesReport.{listed_lines}
use Rattle.mls_report.specs.SignaturesReport.{line_unless, needed_lines, signature_line}
use Rattle.mls_report.specs.SignaturesSteps.{StopsInLines}
use Rattle.mls_wire.specs.declared.fault.RunFault.{RunFault}
use Rattle.mls_wire.specs.declared.fault.RunFault.TheVariants.{Read, Write, Memory}

-- ---- a prefix of what is written

pub prefix-more : (a b : Option (List ℕ)) (text more : List ℕ) → AppendsPrefix a b text → AppendsPrefix a b (text ++ more)
prefix-more a b text more p = (p.0, p.1 ++ more, ap (λ (x : List ℕ). x ++ more) p.2 ∙ append_assoc p.0 p.1 more, p.3)

pub prefix-behind : (a b c : Option (List ℕ)) (front text : List ℕ) → Appends a b front → AppendsPrefix b c text → AppendsPrefix a c (front ++ text)
prefix-behind a b c front text w p =
    (front ++ p.0, p.1, ap (λ (x : List ℕ). front ++ x) p.2 ∙ sym (append_assoc front p.0 p.1), Appends-trans a b c front p.0 w p.3)

-- ---- the next of the signatures that are left

pub split-next : (whole front left : List SignatureToVerify) (w : SignatureToVerify) (rest : List SignatureToVerify) → whole ≡ front ++ left → left ≡ w ∷ rest
    → whole ≡ (front ++ w ∷ []) ++ rest
split-next whole front left w rest split next =
    split ∙ ap (λ (ws : List SignatureToVerify). front ++ ws) next ∙ sym (append_assoc front (w ∷ []) rest)

-- ---- the lines of a list, which are those of its signatures one after the other

module _ (lines : List SignatureToVerify → List ℕ) (both : (ws vs : List SignatureToVerify) → lines (ws ++ vs) ≡ lines ws ++ lines vs) where
  pub wrote-both : (a b c : Option (List ℕ)) (ws vs : List SignatureToVerify) → Appends a b (lines ws) → Appends b c (lines vs) → Appends a c (lines (ws ++ vs))
  wrote-both a b c ws vs p q = subst (Appends a c) (sym (both ws vs)) (Appends-trans a b c (lines ws) (lines vs) p q)

  pub stops-before : (a b : Option (List ℕ)) (ws vs : List SignatureToVerify) (fault : RunFault) → StopsInLines lines ws a b fault → StopsInLines lines (ws ++ vs) a b fault
  stops-before a b ws vs Read p = absurd p
  stops-before a b ws vs Write p = subst (AppendsPrefix a b) (sym (both ws vs)) (prefix-more a b (lines ws) (lines vs) p)
  stops-before a b ws vs Memory p = record {
    front = p.front;
    rest = p.rest ++ vs;
    split = ap (λ (xs : List SignatureToVerify). xs ++ vs) p.split ∙ append_assoc p.front p.rest vs;
    wrote = p.wrote;
  }

  pub stops-behind : (a b c : Option (List ℕ)) (ws vs : List SignatureToVerify) (fault : RunFault) → Appends a b (lines ws) → StopsInLines lines vs b c fault
      → StopsInLines lines (ws ++ vs) a c fault
  stops-behind a b c ws vs Read w p = absurd p
  stops-behind a b c ws vs Write w p = subst (AppendsPrefix a c) (sym (both ws vs)) (prefix-behind a b c (lines ws) (lines vs) w p)
  stops-behind a b c ws vs Memory w p = record {
    front = ws ++ p.front;
    rest = p.rest;
    split = ap (λ (xs : List SignatureToVerify). ws ++ xs) p.split ∙ sym (append_assoc ws p.front p.rest);
    wrote = wrote-both a b c ws p.front w p.wrote;
  }

  -- a signature between those whose lines were written and those that are left
  pub stops-next : (whole front : List SignatureToVerify) (w : SignatureToVerify) (rest : List SignatureToVerify) → whole ≡ (front ++ w ∷ []) ++ rest
      → (a b c : Option (List ℕ)) (fault : RunFault) → Appends a b (lines front) → StopsInLines lines (w ∷ []) b c fault → StopsInLines lines whole a c fault
  stops-next whole front w rest split a b c fault p stops =
      subst (λ (ws : List SignatureToVerify). StopsInLines lines ws a c fault) (sym split)
      (stops-before a c (front ++ w ∷ []) rest fault (stops-behind a b c front (w ∷ []) fault p stops))

-- the text of the lines was not written whole
pub stops-writing :
    {T : Type 0} (r : Result T RunFault) (lines : List SignatureToVerify → List ℕ) (ws : List SignatureToVerify) (a b : Option (List ℕ)) (text : List ℕ)
    → OnErr r (AppendsPrefix a b text) → IfErr r (λ e. e ≡ Write) → text ≡ lines ws → IfErr r (StopsInLines lines ws a b)
stops-writing (Ok x) lines ws a b text part own is = tt
stops-writing (Err e) lines ws a b text part own is = subst (StopsInLines lines ws a b) (sym own) (subst (AppendsPrefix a b) is part)

-- ---- the lines of `signatures`

pub needed_lines-both : (R : VerifyFn) (ws vs : List SignatureToVerify) → needed_lines R (ws ++ vs) ≡ needed_lines R ws ++ needed_lines R vs
needed_lines-both R [] vs = refl
needed_lines-both R (w ∷ ws) vs =
    ap (λ (text : List ℕ). line_unless R w ++ text) (needed_lines-both R ws vs)
    ∙ sym (append_assoc (line_unless R w) (needed_lines R ws) (needed_lines R vs))

-- ---- the lines of a KeyPackage's signatures

pub listed_lines-both : (ws vs : List SignatureToVerify) → listed_lines (ws ++ vs) ≡ listed_lines ws ++ listed_lines vs
listed_lines-both [] vs = refl
listed_lines-both (w ∷ ws) vs =
    ap (λ (text : List ℕ). signature_line w ++ text) (listed_lines-both ws vs)
    ∙ sym (append_assoc (signature_line w) (listed_lines ws) (listed_lines vs))

-- the lines of one more signature were written
pub wrote-next : (a b c : Option (List ℕ)) (ws vs : List SignatureToVerify) (w : SignatureToVerify) → vs ≡ ws ++ w ∷ [] → Appends a b (listed_lines ws)
    → Appends b c (signature_line w) → Appends a c (listed_lines vs)
wrote-next a b c ws vs w next p q =
    subst (λ (xs : List SignatureToVerify). Appends a c (listed_lines xs)) (sym next)
    (wrote-both listed_lines listed_lines-both a b c ws (w ∷ []) p (subst (Appends b c) (sym (append-nil (signature_line w))) q))
