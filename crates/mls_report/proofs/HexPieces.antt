-- Bytes in hexadecimal, piece by piece.
use Rattle.std.proofs.Common.{◌≡◌, ◌∙◌, ℕ, ◌/◌, ◌%◌, List, [], ◌∷◌, ◌++◌, length, refl, sym, ap}
use Rattle.std.specs.Prelude.{slice_index}
use Rattle.std.proofs.lemmas.List.{append_assoc, append-nil, nil_from_length}
use Rattle.hex.specs.Hex.{encode_with, encode_lower, lower_digits}

encode-append : (t a b : List ℕ) → encode_with t (a ++ b) ≡ encode_with t a ++ encode_with t b
unfolding encode_with
encode-append t [] b = refl
encode-append t (x ∷ a) b = ap (λ text. slice_index t (x / 16) ∷ slice_index t (x % 16) ∷ text) (encode-append t a b)

-- the text once nothing is left
pub all_done : (text rest whole : List ℕ) → text ++ encode_lower rest ≡ whole → length rest ≡ 0 → text ≡ whole
unfolding encode_with
all_done text rest whole so_far e =
    sym (append-nil text) ∙ ap (λ more. text ++ encode_lower more) (sym (nil_from_length rest e)) ∙ so_far

-- one more piece
pub piece_done : (text piece rest all whole : List ℕ) → text ++ encode_lower all ≡ whole → all ≡ piece ++ rest → (text ++ encode_lower piece) ++ encode_lower rest ≡ whole
piece_done text piece rest all whole so_far e =
    append_assoc text (encode_lower piece) (encode_lower rest)
    ∙ ap (λ more. text ++ more) (sym (encode-append lower_digits piece rest) ∙ ap encode_lower (sym e))
    ∙ so_far
