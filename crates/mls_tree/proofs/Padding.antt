-- The bytes of a hash value in its array.
use Rattle.std.proofs.Common.{◌≡◌, ℕ, suc, ◌+◌, ◌≤◌, ◌<◌, ◌-◌, List, [], ◌∷◌, ◌++◌, Some, length, take, drop, get_or, replicate, refl, sym, ap, ◌∙◌, arith}
use Rattle.std.proofs.lemmas.List.{take_at, drop-replicate}
use Rattle.mls_wire.specs.Encoding.{length_form, vector}
use Rattle.mls_wire.specs.EncodingConcat.{join}
use Rattle.mls_wire.specs.LengthsExact.{form_1}
use Rattle.mls_tree.specs.HashValue.{IsPadded, bytes_in, padded}

pub padded-new : (bytes : List ℕ) (n : ℕ) → n ≡ length bytes → n ≤ 64 → (z : ℕ) → z ≡ 64 → IsPadded (n ∷ (bytes ++ drop n (replicate z 0)))
padded-new bytes n e l z f =
    let front : take n (bytes ++ drop n (replicate z 0)) ≡ bytes = take_at bytes (drop n (replicate z 0)) n (sym e) in
    let rest : drop n (replicate z 0) ≡ replicate (64 - length bytes) 0 = drop-replicate n z 0 ∙ ap (λ k. replicate k 0) (omega arith) in
    record {
      low = l;
      fits = ap length front ∙ sym e;
      whole = ap padded front ∙ ap (λ r. length bytes ∷ (bytes ++ r)) (sym rest) ∙ ap (λ k. k ∷ (bytes ++ drop n (replicate z 0))) (sym e);
    }

-- the length and the bytes are the encoding, if the length takes one byte
pub short-vector : (array : List ℕ) → IsPadded array → get_or array 0 0 < 64 → vector (bytes_in array) ≡ Some (take (1 + get_or array 0 0) array)
unfolding vector
short-vector array h short =
    let b : List ℕ = bytes_in array in
    let n : ℕ = get_or array 0 0 in
    let v : vector b ≡ Some (length b ∷ b) = join (length_form (length b)) (Some b) (length b ∷ []) b (form_1 (length b) (omega (arith, h.fits, short))) refl in
    let m : 1 + n ≡ suc (length b) = omega (arith, h.fits) in
    let t : take (1 + n) (padded b) ≡ length b ∷ b = ap (λ k. take k (padded b)) m ∙ ap (λ xs. length b ∷ xs) (take_at b (replicate (64 - length b) 0) (length b) refl) in
    v ∙ ap (λ xs. Some xs) (sym t) ∙ ap (λ a. Some (take (1 + n) a)) h.whole
