-- The encoding of a short vector in its array.
use Rattle.std.proofs.Common.{◌≡◌, ℕ, suc, ◌+◌, List, [], ◌∷◌, Some, length, take, get_or, refl, sym, ap, ◌∙◌, arith}
use Rattle.std.proofs.lemmas.List.{length-take}
use Rattle.mls_wire.specs.Encoding.{length_form, vector}
use Rattle.mls_wire.specs.EncodingConcat.{join}
use Rattle.mls_wire.specs.LengthsExact.{form_1}
use Rattle.mls_wire.specs.ShortVectors.{IsShortVector, body_in}

-- the length and the body are the encoding
pub short_encoding : (array : List ℕ) → IsShortVector array → vector (body_in array) ≡ Some (take (1 + get_or array 0 0) array)
unfolding vector
short_encoding [] v = absurd (omega (arith, v.room))
short_encoding (n ∷ rest) v =
    let b : List ℕ = take n rest in
    let len : length b ≡ n = omega (arith, length-take n rest, v.room, v.low) in
    let one : 1 + n ≡ suc n = omega arith in
    join (length_form (length b)) (Some b) (n ∷ []) b (form_1 (length b) (omega (arith, len, v.low)) ∙ ap (λ k. Some (k ∷ [])) len) refl
    ∙ ap (λ k. Some (take k (n ∷ rest))) (sym one)
