-- A number read from bytes, byte by byte.
use Rattle.std.specs.Prelude.{◌≡◌, ℕ, zero, suc, ◌+◌, ◌*◌, ◌^◌, ◌<◌, ◌≤◌, List, [], ◌∷◌, length}
use Rattle.std.proofs.Common.{refl, sym, ap, ◌∙◌, add-one, arith, get_or, drop, inl, inr}
use Rattle.std.specs.Int.{from_be_bytes, w64}
use Rattle.std.proofs.Math.Nat.{mul-le-mul_right, pow-suc, pow-le-pow_right, eq-zero-or-pos}
use Rattle.std.proofs.Math.Seq.{drop-cons}
use Rattle.std.proofs.lemmas.Nat.{pow-add}
use Rattle.mls_curve.specs.Curves.{big_endian}
use Rattle.mls_curve.specs.Limbs.{limb_weight}

pub big_endian_nil : (n : ℕ) → big_endian n [] ≡ n
unfolding big_endian
big_endian_nil n = refl

pub big_endian_drop : (bytes : List ℕ) (i n : ℕ) → i < length bytes → big_endian n (drop i bytes) ≡ big_endian (n * 256 + get_or bytes i 0) (drop (i + 1) bytes)
unfolding big_endian
big_endian_drop bytes i n h = rw (add-one, drop-cons bytes i 0 h)

byte_weight : (n : ℕ) → 256 ^ (8 * n) ≡ limb_weight n
unfolding limb_weight
byte_weight zero = refl
byte_weight (suc n) =
    let e : 8 * suc n ≡ 8 * n + 8 = omega arith in
    ap (λ k. 256 ^ k) e ∙ pow-add 256 (8 * n) 8 ∙ (λ j. byte_weight n j * 2 ^ 64) ∙ sym (pow-suc (2 ^ 64) n)

big_endian_next : (bytes : List ℕ) (i j n : ℕ) → j ≡ i + 1 → i < length bytes → big_endian n (drop i bytes) ≡ big_endian (n * 256 + get_or bytes i 0) (drop j bytes)
big_endian_next bytes i j n e h = rw e (big_endian_drop bytes i n h)

-- eight bytes more
pub big_endian_eight : (bytes : List ℕ) (i n word : ℕ) → i + 8 ≤ length bytes
    → word ≡ from_be_bytes w64 (get_or bytes i 0 ∷ get_or bytes (i + 1) 0 ∷ get_or bytes (i + 2) 0 ∷ get_or bytes (i + 3) 0 ∷ get_or bytes (i + 4) 0 ∷ get_or bytes (i + 5) 0 ∷ get_or bytes (i + 6) 0 ∷ get_or bytes (i + 7) 0 ∷ [])
    → big_endian n (drop i bytes) ≡ big_endian (n * 2 ^ 64 + word) (drop (i + 8) bytes)
big_endian_eight bytes i n word h e =
    big_endian_next bytes i (i + 1) _ refl (omega arith)
    ∙ big_endian_next bytes (i + 1) (i + 2) _ (omega arith) (omega arith)
    ∙ big_endian_next bytes (i + 2) (i + 3) _ (omega arith) (omega arith)
    ∙ big_endian_next bytes (i + 3) (i + 4) _ (omega arith) (omega arith)
    ∙ big_endian_next bytes (i + 4) (i + 5) _ (omega arith) (omega arith)
    ∙ big_endian_next bytes (i + 5) (i + 6) _ (omega arith) (omega arith)
    ∙ big_endian_next bytes (i + 6) (i + 7) _ (omega arith) (omega arith)
    ∙ big_endian_next bytes (i + 7) (i + 8) _ (omega arith) (omega arith)
    ∙ ap (λ k. big_endian k (drop (i + 8) bytes)) (omega (arith, e))

-- eight bytes more, or one, of a number of i bytes
pub more_eight : (v word i : ℕ) → word < 2 ^ 64 → v < 256 ^ i → v * 2 ^ 64 + word < 256 ^ (i + 8)
more_eight v word i small below =
    let more : 256 ^ (i + 8) ≡ 256 ^ i * 2 ^ 64 = pow-add 256 i 8 in
    omega arith

pub more_one : (v byte i : ℕ) → byte < 256 → v < 256 ^ i → v * 256 + byte < 256 ^ (i + 1)
more_one v byte i small below =
    let more : 256 ^ (i + 1) ≡ 256 ^ i * 256 = rw add-one (pow-suc 256 i) in
    omega arith

-- a number of i bytes leaves no carry where the limbs hold that many
pub no_carry : (i len n new carry : ℕ) → i ≤ 8 * len → n < 256 ^ i → new + carry * limb_weight len ≡ n → new ≡ n
no_carry i len n new carry fit below e =
    let room : 256 ^ i ≤ 256 ^ (8 * len) = pow-le-pow_right (omega arith) fit in
    let weight = byte_weight len in
    elim (eq-zero-or-pos carry) [
      | inl z ↦ let none : carry * limb_weight len ≡ 0 = ap (λ k. k * limb_weight len) z ∙ omega arith in omega arith
      | inr p ↦ let over : 1 * limb_weight len ≤ carry * limb_weight len = mul-le-mul_right (limb_weight len) p in absurd (omega arith)
    ]

pub big_endian_end : (bytes : List ℕ) (i n : ℕ) → length bytes ≤ i → big_endian n (drop i bytes) ≡ n
unfolding big_endian
big_endian_end [] zero n h = refl
big_endian_end [] (suc i) n h = refl
big_endian_end (b ∷ bs) zero n h = absurd (omega arith)
big_endian_end (b ∷ bs) (suc i) n h = big_endian_end bs i n (omega arith)

pub power_none : 256 ^ 0 ≡ 1
power_none = refl
