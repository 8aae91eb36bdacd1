-- Signatures that are left out of a list, since an equal one is in it.
use Rattle.std.proofs.Common.{◌≡◌, ◌∙◌, ℕ, List, [], ◌∷◌, ◌++◌, Bool, true, false, cond, not, refl, sym, ap, append_assoc, append-nil}
use Rattle.std.specs.Prelude.{◌==◌, ◌&&◌, ◌||◌, ⊤, Result, OnOk}
use Rattle.std.proofs.lemmas.Bool.{eq-eqb}
use Rattle.std.proofs.lemmas.List.Folds.{list_any-append}
use Rattle.std.proofs.lemmas.Result.{on_ok_weaker}
use Rattle.std.proofs.lemmas.Slice.Eq.{bytes_eq-Decides}
use Rattle.mls_signatures.specs.AddedLeaves.{AppendsSignatures}
use Rattle.mls_signatures.specs.SignaturesToVerify.{is_same, without_signature, deduplicated}
use Rattle.mls_signatures.specs.declared.signature_to_verify.SignatureToVerify.{SignatureToVerify}
use Rattle.mls_signatures.proofs.Agreement.{same_is}
use Rattle.mls_signatures.proofs.DuplicateMarks.{is_met, deduplicated-more}

-- each of these is in a list
abbrev pub AllMet : List SignatureToVerify → List SignatureToVerify → Type 0
AllMet ws [] = ⊤
AllMet ws (q ∷ qs) = (is_met ws q ≡ true) × AllMet ws qs

number_itself : (n : ℕ) → (n == n) ≡ true
number_itself n = eq-eqb n n refl

-- each is the same as itself
pub same_itself : (q : SignatureToVerify) → is_same q q ≡ true
same_itself q =
    (λ i. (number_itself q.suite i) && (bytes_eq-Decides q.key q.key).1 refl i && (bytes_eq-Decides q.content q.content).1 refl i && (bytes_eq-Decides q.signature q.signature).1 refl i)

or_true : (b : Bool) → (b || true) ≡ true
or_true true = refl
or_true false = refl

met_front : (ws rest : List SignatureToVerify) (q : SignatureToVerify) → is_met ws q ≡ true → is_met (ws ++ rest) q ≡ true
met_front ws rest q e = list_any-append (λ r. is_same r q) ws rest ∙ ap (λ b. b || is_met rest q) e

met_behind : (ws rest : List SignatureToVerify) (q : SignatureToVerify) → is_met rest q ≡ true → is_met (ws ++ rest) q ≡ true
met_behind ws rest q e = list_any-append (λ r. is_same r q) ws rest ∙ ap (λ b. is_met ws q || b) e ∙ or_true (is_met ws q)

pub all_front : (ws rest qs : List SignatureToVerify) → AllMet ws qs → AllMet (ws ++ rest) qs
all_front ws rest [] m = tt
all_front ws rest (q ∷ qs) m = (met_front ws rest q m.0, all_front ws rest qs m.1)

pub all_behind : (ws rest qs : List SignatureToVerify) → AllMet rest qs → AllMet (ws ++ rest) qs
all_behind ws rest [] m = tt
all_behind ws rest (q ∷ qs) m = (met_behind ws rest q m.0, all_behind ws rest qs m.1)

pub all_itself : (qs : List SignatureToVerify) → AllMet qs qs
all_itself [] = tt
all_itself (q ∷ qs) = (ap (λ b. b || is_met qs q) (same_itself q), all_behind (q ∷ []) qs qs (all_itself qs))

-- ---- without duplicates

kept_one : (r q w : SignatureToVerify) → is_same r q ≡ false → (kept ws : List SignatureToVerify) → is_met kept q ≡ is_met ws q → (b : Bool) → is_same r w ≡ b
    → is_met (cond (not b) (w ∷ kept) kept) q ≡ (is_same w q || is_met ws q)
kept_one r q w apart kept ws same true e = same ∙ ap (λ b. b || is_met ws q) (sym (ap (λ v. is_same v q) (sym (same_is r w e)) ∙ apart))
kept_one r q w apart kept ws same false e = ap (λ b. is_same w q || b) same

kept_met : (r q : SignatureToVerify) → is_same r q ≡ false → (ws : List SignatureToVerify) → is_met (without_signature r ws) q ≡ is_met ws q
kept_met r q apart [] = refl
kept_met r q apart (w ∷ ws) = kept_one r q w apart (without_signature r ws) ws (kept_met r q apart ws) (is_same r w) refl

-- what is in a list is in it without its duplicates
met_behind_one : (r q : SignatureToVerify) (rs : List SignatureToVerify) → is_met (deduplicated rs) q ≡ is_met rs q → (b : Bool) → is_same r q ≡ b
    → (b || is_met (without_signature r (deduplicated rs)) q) ≡ (b || is_met rs q)
met_behind_one r q rs same true e = refl
met_behind_one r q rs same false e = kept_met r q e (deduplicated rs) ∙ same

met_deduplicated : (ws : List SignatureToVerify) (q : SignatureToVerify) → is_met (deduplicated ws) q ≡ is_met ws q
met_deduplicated [] q = refl
met_deduplicated (r ∷ rs) q = met_behind_one r q rs (met_deduplicated rs q) (is_same r q) refl

-- what is appended to lists that are alike
pub deduplicated-behind : (xs ys qs : List SignatureToVerify) → deduplicated xs ≡ deduplicated ys → deduplicated (xs ++ qs) ≡ deduplicated (ys ++ qs)
deduplicated-behind xs ys [] e = ap deduplicated (append-nil xs) ∙ e ∙ sym (ap deduplicated (append-nil ys))
deduplicated-behind xs ys (q ∷ qs) e =
    let met : is_met xs q ≡ is_met ys q = sym (met_deduplicated xs q) ∙ ap (λ ws. is_met ws q) e ∙ met_deduplicated ys q in
    let one : deduplicated (xs ++ q ∷ []) ≡ deduplicated (ys ++ q ∷ []) =
    deduplicated-more xs q ∙ (λ i. e i ++ cond (met i) [] (q ∷ [])) ∙ sym (deduplicated-more ys q) in
    ap deduplicated (sym (append_assoc xs (q ∷ []) qs))
    ∙ deduplicated-behind (xs ++ q ∷ []) (ys ++ q ∷ []) qs one
    ∙ ap deduplicated (append_assoc ys (q ∷ []) qs)

-- a list without its duplicates has none
again_more : (xs : List SignatureToVerify) (q : SignatureToVerify) → deduplicated (deduplicated xs) ≡ deduplicated xs → (m : Bool) → is_met xs q ≡ m
    → deduplicated (deduplicated xs ++ cond m [] (q ∷ [])) ≡ deduplicated xs ++ cond m [] (q ∷ [])
again_more xs q same true e = ap deduplicated (append-nil (deduplicated xs)) ∙ same ∙ sym (append-nil (deduplicated xs))
again_more xs q same false e = deduplicated-more (deduplicated xs) q ∙ (λ i. same i ++ cond ((met_deduplicated xs q ∙ e) i) [] (q ∷ []))

again_one : (xs : List SignatureToVerify) (q : SignatureToVerify) → deduplicated (deduplicated xs) ≡ deduplicated xs
    → deduplicated (deduplicated (xs ++ q ∷ [])) ≡ deduplicated (xs ++ q ∷ [])
again_one xs q same = ap deduplicated (deduplicated-more xs q) ∙ again_more xs q same (is_met xs q) refl ∙ sym (deduplicated-more xs q)

again_behind : (xs qs : List SignatureToVerify) → deduplicated (deduplicated xs) ≡ deduplicated xs → deduplicated (deduplicated (xs ++ qs)) ≡ deduplicated (xs ++ qs)
again_behind xs [] same = ap (λ (ws : List SignatureToVerify). deduplicated (deduplicated ws)) (append-nil xs) ∙ same ∙ sym (ap deduplicated (append-nil xs))
again_behind xs (q ∷ qs) same =
    ap (λ (ws : List SignatureToVerify). deduplicated (deduplicated ws)) (sym (append_assoc xs (q ∷ []) qs))
    ∙ again_behind (xs ++ q ∷ []) qs (again_one xs q same)
    ∙ ap deduplicated (append_assoc xs (q ∷ []) qs)

pub deduplicated-again : (qs : List SignatureToVerify) → deduplicated (deduplicated qs) ≡ deduplicated qs
deduplicated-again qs = again_behind [] qs refl

-- what is in a list already
pub deduplicated-met : (ws qs : List SignatureToVerify) → AllMet ws qs → deduplicated (ws ++ qs) ≡ deduplicated ws
deduplicated-met ws [] m = ap deduplicated (append-nil ws)
deduplicated-met ws (q ∷ qs) m =
    let one : deduplicated (ws ++ q ∷ []) ≡ deduplicated ws =
    deduplicated-more ws q ∙ ap (λ (b : Bool). deduplicated ws ++ cond b [] (q ∷ [])) m.0 ∙ append-nil (deduplicated ws) in
    ap deduplicated (sym (append_assoc ws (q ∷ []) qs))
    ∙ deduplicated-met (ws ++ q ∷ []) qs (all_front ws (q ∷ []) qs m.1)
    ∙ one

-- ---- what is met in a list

all_alike : (xs ys qs : List SignatureToVerify) → deduplicated xs ≡ deduplicated ys → AllMet xs qs → AllMet ys qs
all_alike xs ys [] e m = tt
all_alike xs ys (q ∷ qs) e m = (
  sym (met_deduplicated ys q) ∙ ap (λ ws. is_met ws q) (sym e) ∙ met_deduplicated xs q ∙ m.0,
  all_alike xs ys qs e m.1,
)

-- what was appended
pub appended-met : (old qs new : List SignatureToVerify) → AppendsSignatures old qs new → AllMet new qs
appended-met old qs new e = all_alike (old ++ qs) new qs (sym e) (all_behind old qs qs (all_itself qs))

-- what was in the list before
pub appended-still : (old ws new qs : List SignatureToVerify) → AppendsSignatures old ws new → AllMet old qs → AllMet new qs
appended-still old ws new qs e m = all_alike (old ++ ws) new qs (sym e) (all_front old ws qs m)

pub met-appends : (ws qs : List SignatureToVerify) → AllMet ws qs → AppendsSignatures ws qs ws
met-appends ws qs m = sym (deduplicated-met ws qs m)

pub all-left : (ws xs ys : List SignatureToVerify) → AllMet ws (xs ++ ys) → AllMet ws xs
all-left ws [] ys m = tt
all-left ws (x ∷ xs) ys m = (m.0, all-left ws xs ys m.1)

pub all-right : (ws xs ys : List SignatureToVerify) → AllMet ws (xs ++ ys) → AllMet ws ys
all-right ws [] ys m = m
all-right ws (x ∷ xs) ys m = all-right ws xs ys m.1

-- ---- a list that gets longer

pub extends-none : (old : List SignatureToVerify) → AppendsSignatures old [] old
extends-none old = ap deduplicated (sym (append-nil old))

pub extends-once : (old qs mid new : List SignatureToVerify) → mid ≡ old ++ qs → new ≡ deduplicated mid → AppendsSignatures old qs new
extends-once old qs mid new e less = ap deduplicated less ∙ deduplicated-again mid ∙ ap deduplicated e

pub extends-by : (old qs new : List SignatureToVerify) → new ≡ old ++ qs → AppendsSignatures old qs new
extends-by old qs new e = ap deduplicated e

module _ (old ws now : List SignatureToVerify) (known : AppendsSignatures old ws now) where
  pub extends-more : (qs new : List SignatureToVerify) → AppendsSignatures now qs new → AppendsSignatures old (ws ++ qs) new
  extends-more qs new e = e ∙ deduplicated-behind now (old ++ ws) qs known ∙ ap deduplicated (append_assoc old ws qs)

  -- by a call that may fail
  pub extends-then : {A E : Type 0} (result : Result A E) (qs new : List SignatureToVerify) → OnOk result (AppendsSignatures now qs new)
      → OnOk result (AppendsSignatures old (ws ++ qs) new)
  extends-then result qs new = on_ok_weaker result (extends-more qs new)

  pub extends-skip : (qs : List SignatureToVerify) → AllMet (old ++ ws) qs → AppendsSignatures old (ws ++ qs) now
  extends-skip qs m = known ∙ sym (deduplicated-met (old ++ ws) qs m) ∙ ap deduplicated (append_assoc old ws qs)
