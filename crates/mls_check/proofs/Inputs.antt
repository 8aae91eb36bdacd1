-- What a receipt is the digest of, part by part.
use Rattle.std.proofs.Common.{◌≡◌, ℕ, ◌+◌, ◌<◌, ◌≤◌, ◌^◌, List, [], ◌∷◌, ◌++◌, length, Some, None, inl, inr, refl, sym, ap, ◌∙◌, append_assoc, arith, w16, w32}
use Rattle.std.specs.Prelude.{option_map}
use Rattle.std.specs.Int.{to_be_bytes}
use Rattle.std.proofs.lemmas.Bool.{cases_lt}
use Rattle.std.proofs.lemmas.Bool.Decides.{nat_tests}
use Rattle.sha2.specs.Sha256.{sha256}
use Rattle.mls_wire.specs.Encoding.{◌⊕◌, number, length_form, vector}
use Rattle.mls_wire.specs.WriteSequences.{none_first, none_second}
use Rattle.mls_wire.specs.EncodingConcat.{join}
use Rattle.mls_check.specs.Receipts.{receipt_input}

-- the three forms of a length
length_form-one : (n : ℕ) → n < 64 → length_form n ≡ Some (n ∷ [])
unfolding length_form
length_form-one n low = grind (arith, nat_tests)

length_form-two : (n : ℕ) → 64 ≤ n → n < 16384 → length_form n ≡ Some (to_be_bytes w16 (n + 16384))
unfolding length_form
length_form-two n low high = grind (arith, nat_tests)

length_form-four : (n : ℕ) → 16384 ≤ n → n < 1073741824 → length_form n ≡ Some (to_be_bytes w32 (n + 2147483648))
unfolding length_form
length_form-four n low high = grind (arith, nat_tests)

length_form-none : (n : ℕ) → 1073741823 < n → length_form n ≡ None
unfolding length_form
length_form-none n high = grind (arith, nat_tests)

-- a length within the limit has a form
pub length_form-some : (n : ℕ) → n ≤ 1073741823 → (text : List ℕ) × (length_form n ≡ Some text)
length_form-some n le =
    elim (cases_lt n 64) [
      | inl a ↦ (n ∷ [], length_form-one n a)
      | inr b ↦ elim (cases_lt n 16384) [
        | inl c ↦ (to_be_bytes w16 (n + 16384), length_form-two n b c)
        | inr d ↦ (to_be_bytes w32 (n + 2147483648), length_form-four n d (omega arith))
      ]
    ]

-- a vector's text: that of its length, and the body
pub vector-some : (body text : List ℕ) → length_form (length body) ≡ Some text → vector body ≡ Some (text ++ body)
unfolding vector
vector-some body text e = join (length_form (length body)) (Some body) text body e refl

-- a body over the limit
pub vector-none : (body : List ℕ) → 1073741823 < length body → vector body ≡ None
unfolding vector
vector-none body long = none_first (length_form (length body)) (Some body) (length_form-none (length body) long)

-- a part that has no spelling leaves none to the whole
pub receipt_input-no_key : (s : ℕ) (k c g : List ℕ) → vector k ≡ None → option_map sha256 (receipt_input s k c g) ≡ None
unfolding receipt_input
receipt_input-no_key s k c g e = ap (option_map sha256) (none_second (number w16 s) _ (none_first (vector k) _ e))

pub receipt_input-no_content : (s : ℕ) (k c g : List ℕ) → vector c ≡ None → option_map sha256 (receipt_input s k c g) ≡ None
unfolding receipt_input
receipt_input-no_content s k c g e = ap (option_map sha256) (none_second (number w16 s) _ (none_second (vector k) _ (none_first (vector c) _ e)))

pub receipt_input-no_signature : (s : ℕ) (k c g : List ℕ) → vector g ≡ None → option_map sha256 (receipt_input s k c g) ≡ None
unfolding receipt_input
receipt_input-no_signature s k c g e = ap (option_map sha256) (none_second (number w16 s) _ (none_second (vector k) _ (none_second (vector c) _ e)))

number-some : (s : ℕ) → s < 2 ^ 16 → number w16 s ≡ Some (to_be_bytes w16 s)
unfolding number
number-some s low = grind (arith, nat_tests)

-- the parts in a row
pub receipt_input-some : (s : ℕ) (k c g n a b d : List ℕ) → s < 2 ^ 16 → n ≡ to_be_bytes w16 s → vector k ≡ Some a → vector c ≡ Some b → vector g ≡ Some d
    → Some (sha256 (((([] ++ n) ++ a) ++ b) ++ d)) ≡ option_map sha256 (receipt_input s k c g)
unfolding receipt_input
receipt_input-some s k c g n a b d low m p q r =
    let e = join (number w16 s) (vector k ⊕ (vector c ⊕ vector g)) n (a ++ (b ++ d)) (number-some s low ∙ ap (λ (x : List ℕ). Some x) (sym m)) (join (vector k) (vector c ⊕ vector g) a (b ++ d) p (join (vector c) (vector g) b d q r)) in
    let f : (((n ++ a) ++ b) ++ d) ≡ (n ++ (a ++ (b ++ d))) = simp append_assoc in
    ap (λ (x : List ℕ). Some (sha256 x)) f ∙ sym (ap (option_map sha256) e)
