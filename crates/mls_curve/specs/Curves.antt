-- Points of the curves P-256, P-384 and P-521 (FIPS 186-4, D.1.2; SEC 1, 2.2.1), and their uncompressed form (SEC 1, 2.3.3).
-- Bytes are a list of numbers. Used by contracts.
use Rattle.std.specs.Prelude.{ℕ, ◌+◌, ◌-◌, ◌*◌, ◌^◌, ◌%◌, ◌==◌, nat_lt, Bool, false, ◌&&◌, List, [], ◌∷◌, length, take, drop}
use Rattle.mls_curve.specs.declared.curve.Curve.{Curve}
use Rattle.mls_curve.specs.declared.curve.Curve.TheVariants.{P256, P384, P521}

-- `prime curve` is the prime p of the curve's field.
unfoldable pub prime : Curve → ℕ
prime P256 = 2 ^ 256 - 2 ^ 224 + 2 ^ 192 + 2 ^ 96 - 1
prime P384 = 2 ^ 384 - 2 ^ 128 - 2 ^ 96 + 2 ^ 32 - 1
prime P521 = 2 ^ 521 - 1

-- `coefficient curve` is the coefficient b of the curve's equation.
unfoldable pub coefficient : Curve → ℕ
coefficient P256 = 0x5ac635d8aa3a93e7b3ebbd55769886bc651d06b0cc53b0f63bce3c3e27d2604b
coefficient P384 = 0xb3312fa7e23ee7e4988e056be3f82d19181d9c6efe8141120314088f5013875ac656398d8a2ed19d2a85c8edd3ec2aef
coefficient P521 = 0x51953eb9618e1c9a1f929a21a0b68540eea2da725b99b315f3b8b489918ef109e156193951ec7e937b1652c0bd3bb1bf073573df883d2c34f1ef451fd46b503f00

-- `coordinate_length curve` is the number of bytes of a coordinate (SEC 1, 2.3.5).
unfoldable pub coordinate_length : Curve → ℕ
coordinate_length P256 = 32
coordinate_length P384 = 48
coordinate_length P521 = 66

-- `big_endian n b` is the number whose digits to the base 256 are those of n, then the bytes. So `big_endian 0 b` is the
-- number that the bytes encode, the highest byte first (SEC 1, 2.3.8).
unfoldable pub big_endian : ℕ → List ℕ → ℕ
big_endian n [] = n
big_endian n (x ∷ xs) = big_endian (n * 256 + x) xs

-- `begins_with n b`: the first byte is n.
abbrev pub begins_with : ℕ → List ℕ → Bool
begins_with n [] = false
begins_with n (x ∷ xs) = x == n

-- `is_point curve x y`: x and y are below p, and y^2 = x^3 + a x + b modulo p, where a is p - 3 (SEC 1, 2.2.1).
abbrev pub is_point : Curve → ℕ → ℕ → Bool
is_point curve x y =
    nat_lt x (prime curve) && nat_lt y (prime curve)
    && (y * y % prime curve == (x * x * x + (prime curve - 3) * x + coefficient curve) % prime curve)

-- `is_on_curve curve b`: the bytes are 4 and the coordinates x and y of a point, each with the highest byte first (SEC 1,
-- 2.3.3).
unfoldable pub is_on_curve : Curve → List ℕ → Bool
is_on_curve curve b =
    (length b == 1 + 2 * coordinate_length curve) && begins_with 4 b
    && is_point curve (big_endian 0 (take (coordinate_length curve) (drop 1 b)))
    (big_endian 0 (drop (1 + coordinate_length curve) b))
