-- Signatures that a list stores without the group id.
use Rattle.std.proofs.Common.{◌≡◌, ◌∙◌, ℕ, ◌+◌, ◌-◌, ◌≤◌, List, [], ◌∷◌, ◌++◌, take, drop, length, Bool, true, false, cond, refl, sym, ap, subst, arith, length-append}
use Rattle.std.specs.Prelude.{◌==◌, ◌&&◌, nat_le}
use Rattle.std.specs.Str.{bytes_eq}
use Rattle.std.proofs.Math.Bool.{beq}
use Rattle.std.specs.Cmp.{booleans_Decides, both_ways}
use Rattle.std.proofs.Math.Seq.{take-append_seam, drop-append_seam}
use Rattle.std.proofs.lemmas.Bool.{and_parts, and_from, leb-true, eqb-true, eq-eqb}
use Rattle.std.proofs.lemmas.List.{drop-drop, length-drop, map-append, take-append-drop}
use Rattle.std.proofs.lemmas.List.Elements.{All-nil, All-cons, All-append}
use Rattle.std.proofs.lemmas.Slice.Eq.{bytes_eq-Decides}
use Rattle.mls_signatures.specs.SignaturesToVerify.{is_same}
use Rattle.mls_signatures.specs.ShortenedSignatures.{has_group_id, without_group_id, with_group_id, shortened_content, restored_content, shortened, restored, restored_all, IsShortened, AreShortened}
use Rattle.mls_signatures.specs.declared.shortened_signature.ShortenedSignature.{ShortenedSignature}
use Rattle.mls_signatures.specs.declared.signature_to_verify.SignatureToVerify.{SignatureToVerify}
use Rattle.mls_signatures.proofs.Agreement.{same_is}
use Rattle.mls_signatures.proofs.Repeats.{same_itself}

-- ---- what is signed

-- the group id is put back where it was
with-without : (g content : List ℕ) → length g + 4 ≤ length content
    → take (length g) (drop (length content - (length g + 4)) content) ≡ g → with_group_id g (without_group_id g content) ≡ content
with-without g content long there =
    let k = length g in
    let n = length content in
    let m = n - (k + 4) in
    let front = take m content in
    let back = drop (n - 4) content in
    let seam : length (front ++ back) - 4 ≡ length front =
    omega (arith, length-append front back, length-drop (n - 4) content, long) in
    let rest : back ≡ drop k (drop m content) = ap (λ i. drop i content) (omega (arith, long)) ∙ sym (drop-drop k m content) in
    (λ i. take (seam i) (front ++ back) ++ (g ++ drop (seam i) (front ++ back)))
    ∙ (λ i. take-append_seam front back i ++ (g ++ drop-append_seam front back i))
    ∙ (λ i. front ++ (sym there i ++ rest i))
    ∙ ap (λ xs. front ++ xs) (take-append-drop k (drop m content))
    ∙ take-append-drop m content

content_case : (g content : List ℕ) (b : Bool) → has_group_id g content ≡ b
    → cond b (with_group_id g (cond b (without_group_id g content) content)) (cond b (without_group_id g content) content) ≡ content
content_case g content true e =
    let parts = and_parts (nat_le (length g + 4) (length content)) (bytes_eq (take (length g) (drop (length content - (length g + 4)) content)) g) e in
    with-without g content (leb-true (length g + 4) (length content) parts.0) ((bytes_eq-Decides (take (length g) (drop (length content - (length g + 4)) content)) g).0 parts.1)
content_case g content false e = refl

restored_content-shortened : (g content : List ℕ) → restored_content g (has_group_id g content) (shortened_content g content) ≡ content
restored_content-shortened g content = content_case g content (has_group_id g content) refl

-- ---- signatures

pub restored-shortened : (g : List ℕ) (q : SignatureToVerify) → restored g (shortened g q) ≡ q
restored-shortened g q =
    let content = shortened_content g q.content in
    let rest : drop (length q.key) (q.key ++ (q.signature ++ content)) ≡ q.signature ++ content = drop-append_seam q.key (q.signature ++ content) in
    let stored : drop (length q.key + length q.signature) (q.key ++ (q.signature ++ content)) ≡ content =
    sym (drop-drop (length q.signature) (length q.key) (q.key ++ (q.signature ++ content))) ∙ ap (drop (length q.signature)) rest ∙ drop-append_seam q.signature content in
    λ i. record {
      suite = q.suite;
      key = take-append_seam q.key (q.signature ++ content) i;
      content = (ap (restored_content g (has_group_id g q.content)) stored ∙ restored_content-shortened g q.content) i;
      signature = (ap (take (length q.signature)) rest ∙ take-append_seam q.signature content) i;
    }

pub is_shortened : (g : List ℕ) (q : SignatureToVerify) (x : ShortenedSignature) → x ≡ shortened g q → IsShortened g x
is_shortened g q x e = ap (λ (y : ShortenedSignature). shortened g (restored g y)) e ∙ ap (shortened g) (restored-shortened g q) ∙ sym e

-- one more
pub shortened-push : (g : List ℕ) (xs : List ShortenedSignature) (q : SignatureToVerify) (x : ShortenedSignature) (ys : List ShortenedSignature)
    → x ≡ shortened g q → ys ≡ xs ++ x ∷ [] → AreShortened g xs → AreShortened g ys
shortened-push g xs q x ys e push known =
    subst (AreShortened g) (sym push)
    (All-append (IsShortened g) xs (x ∷ []) known (All-cons (IsShortened g) x [] (is_shortened g q x e) (All-nil (IsShortened g))))

pub restored-push : (g : List ℕ) (xs : List ShortenedSignature) (q : SignatureToVerify) (x : ShortenedSignature) (ys : List ShortenedSignature)
    → x ≡ shortened g q → ys ≡ xs ++ x ∷ [] → restored_all g ys ≡ restored_all g xs ++ q ∷ []
restored-push g xs q x ys e push =
    ap (restored_all g) push
    ∙ map-append (restored g) xs (x ∷ [])
    ∙ ap (λ (r : SignatureToVerify). restored_all g xs ++ r ∷ []) (ap (restored g) e ∙ restored-shortened g q)

-- ---- equal ones

-- whether what is stored of two signatures is equal
abbrev pub is_same_stored : ShortenedSignature → ShortenedSignature → Bool
is_same_stored a b =
    a.suite == b.suite && beq a.is_shortened b.is_shortened && a.key_len == b.key_len && a.signature_len == b.signature_len && bytes_eq a.bytes b.bytes

stored_is : (a b : ShortenedSignature) → is_same_stored a b ≡ true → a ≡ b
stored_is a b e =
    let four = and_parts (a.suite == b.suite && beq a.is_shortened b.is_shortened && a.key_len == b.key_len && a.signature_len == b.signature_len) (bytes_eq a.bytes b.bytes) e in
    let three = and_parts (a.suite == b.suite && beq a.is_shortened b.is_shortened && a.key_len == b.key_len) (a.signature_len == b.signature_len) four.0 in
    let two = and_parts (a.suite == b.suite && beq a.is_shortened b.is_shortened) (a.key_len == b.key_len) three.0 in
    let one = and_parts (a.suite == b.suite) (beq a.is_shortened b.is_shortened) two.0 in
    let suite = eqb-true a.suite b.suite one.0 in
    let flag = (booleans_Decides a.is_shortened b.is_shortened).0 one.1 in
    let key = eqb-true a.key_len b.key_len two.1 in
    let signature = eqb-true a.signature_len b.signature_len three.1 in
    let bytes = (bytes_eq-Decides a.bytes b.bytes).0 four.1 in
    λ i. record { suite = suite i; is_shortened = flag i; key_len = key i; signature_len = signature i; bytes = bytes i }

stored_itself : (a : ShortenedSignature) → is_same_stored a a ≡ true
stored_itself a =
    and_from (a.suite == a.suite && beq a.is_shortened a.is_shortened && a.key_len == a.key_len && a.signature_len == a.signature_len) (bytes_eq a.bytes a.bytes)
    (and_from (a.suite == a.suite && beq a.is_shortened a.is_shortened && a.key_len == a.key_len) (a.signature_len == a.signature_len)
    (and_from (a.suite == a.suite && beq a.is_shortened a.is_shortened) (a.key_len == a.key_len)
    (and_from (a.suite == a.suite) (beq a.is_shortened a.is_shortened) (eq-eqb a.suite a.suite refl)
    ((booleans_Decides a.is_shortened a.is_shortened).1 refl))
    (eq-eqb a.key_len a.key_len refl))
    (eq-eqb a.signature_len a.signature_len refl))
    ((bytes_eq-Decides a.bytes a.bytes).1 refl)

-- the key and the signature are within what is stored
pub parts_within : (g : List ℕ) (x : ShortenedSignature) → IsShortened g x → x.key_len + x.signature_len ≤ length x.bytes
parts_within g x is =
    let q = restored g x in
    let long : length q.key + length q.signature ≤ length (q.key ++ (q.signature ++ shortened_content g q.content)) =
    omega (arith, length-append q.key (q.signature ++ shortened_content g q.content), length-append q.signature (shortened_content g q.content)) in
    subst (λ (y : ShortenedSignature). y.key_len + y.signature_len ≤ length y.bytes) is long

-- two signatures are equal if and only if what is stored of them is
pub same-stored : (g : List ℕ) (a b : ShortenedSignature) → IsShortened g a → IsShortened g b → is_same_stored a b ≡ is_same (restored g a) (restored g b)
same-stored g a b first second =
    both_ways (is_same_stored a b) (is_same (restored g a) (restored g b))
    (λ e. ap (λ (x : ShortenedSignature). is_same (restored g a) (restored g x)) (sym (stored_is a b e)) ∙ same_itself (restored g a))
    (λ e.
    ap (is_same_stored a) (sym (sym first ∙ ap (shortened g) (same_is (restored g a) (restored g b) e) ∙ second)) ∙ stored_itself a)
