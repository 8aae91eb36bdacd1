-- The forms of keys (RFC 9420, 5.1.1). A key is a list of bytes. Used by contracts.
use Rattle.std.specs.Prelude.{ℕ, ◌+◌, ◌-◌, ◌*◌, ◌%◌, ◌^◌, ◌==◌, nat_le, nat_lt, Bool, true, ◌&&◌, ◌||◌, not, if◌then◌else◌, List, [], ◌∷◌, length, Option, Some, None}
use Rattle.std.specs.List.{list_any}
use Rattle.mls_curve.specs.Curves.{begins_with, is_on_curve}
use Rattle.mls_curve.specs.declared.curve.Curve.{Curve}
use Rattle.mls_curve.specs.declared.curve.Curve.TheVariants.{P256, P384, P521}
use Rattle.mls_hash.specs.Suites.{hpke_key_length, signature_key_length}

-- `has_curve25519 suite`: the suite has X25519 and Ed25519 (RFC 9420, 17.1).
abbrev pub has_curve25519 : ℕ → Bool
has_curve25519 suite = (suite == 1) || (suite == 3)

-- `has_curve448 suite`: the suite has X448 and Ed448 (RFC 9420, 17.1).
abbrev pub has_curve448 : ℕ → Bool
has_curve448 suite = (suite == 4) || (suite == 6)

-- `le_number b` is the number that the bytes encode, the least byte first (RFC 7748, 5; RFC 8032, 5.1.2).
unfoldable pub le_number : List ℕ → ℕ
le_number [] = 0
le_number (x ∷ xs) = x + 256 * le_number xs

-- The primes of the two fields (RFC 7748, 4.1 and 4.2).
abbrev pub prime_25519 : ℕ
prime_25519 = 2 ^ 255 - 19

abbrev pub prime_448 : ℕ
prime_448 = 2 ^ 448 - 2 ^ 224 - 1

-- `low_order_25519` is the coordinates u below 2 ^ 255 of the points of low order: 0, 1 and -1 modulo the prime, in each
-- encoding, and those of the points of order 8. With one of them X25519 gives 0 for each secret key, so each HPKE
-- operation fails (RFC 7748, 6.1; RFC 9180, 7.1.4).
abbrev pub low_order_25519 : List ℕ
low_order_25519 =
    0 ∷ 1 ∷ (prime_25519 - 1) ∷ prime_25519 ∷ (prime_25519 + 1)
    ∷ 325606250916557431795983626356110631294008115727848805560023387167927233504
    ∷ 39382357235489614581723060781553021112529911719440698176882885853963445705823 ∷ []

-- `low_order_448` is the same for X448 (RFC 7748, 6.2): 0, 1 and -1, in each encoding.
abbrev pub low_order_448 : List ℕ
low_order_448 = 0 ∷ 1 ∷ (prime_448 - 1) ∷ prime_448 ∷ (prime_448 + 1) ∷ []

-- `is_hpke_key suite b`: the bytes have the form of a public key of the suite's KEM, which is also that of its `kem_output`
-- (RFC 9420, 5.1.1; RFC 9180, 7.1): an uncompressed point, or a coordinate u that is not of low order. X25519 ignores the
-- top bit (RFC 7748, 5).
unfoldable pub is_hpke_key : ℕ → List ℕ → Bool
is_hpke_key suite b =
    (length b == hpke_key_length suite)
    && (if has_curve25519 suite then not (list_any (λ u. u == le_number b % 2 ^ 255) low_order_25519)
    else (if has_curve448 suite then not (list_any (λ u. u == le_number b) low_order_448) else begins_with 4 b))

-- `is_canonical sign p n`: n encodes a point of an Edwards curve over the field of the prime p in the one canonical way (RFC
-- 8032, 5.1.3 and 5.2.3): y, the bits below bit `sign`, is below p; and where y is 1 or -1, so that x is 0, bit `sign` is 0.
unfoldable pub is_canonical : ℕ → ℕ → ℕ → Bool
is_canonical sign p n =
    let y = n % 2 ^ sign in
    nat_lt y p && not (((y == 1) || (y == p - 1)) && nat_le (2 ^ sign) n)

-- `is_signature_key suite b`: the bytes have the form of a public signature key of the suite (RFC 9420, 5.1.1): an
-- uncompressed point, or a point of an Edwards curve, canonically.
unfoldable pub is_signature_key : ℕ → List ℕ → Bool
is_signature_key suite b =
    (length b == signature_key_length suite)
    && (if has_curve25519 suite then is_canonical 255 prime_25519 (le_number b)
    else (if has_curve448 suite then is_canonical 455 prime_448 (le_number b) else begins_with 4 b))

-- `curve_of suite` is the curve of the suite's KEM, if it is one of P-256, P-384 and P-521 (RFC 9420, 17.1).
unfoldable pub curve_of : ℕ → Option Curve
curve_of suite =
    if suite == 2 then Some P256 else (if suite == 5 then Some P521 else (if suite == 7 then Some P384 else None))

-- `is_on_curve_if_any curve b`: the bytes are an uncompressed point of the curve, if there is one.
abbrev pub is_on_curve_if_any : Option Curve → List ℕ → Bool
is_on_curve_if_any None b = true
is_on_curve_if_any (Some curve) b = is_on_curve curve b

-- `is_suite_point suite b`: the bytes are a point of the curve of the suite's KEM, which a public key and a `kem_output` are
-- (RFC 9420, 5.1.1; RFC 9180, 7.1.4). Of X25519 and X448, where each coordinate is that of a point, nothing is demanded.
unfoldable pub is_suite_point : ℕ → List ℕ → Bool
is_suite_point suite b = is_on_curve_if_any (curve_of suite) b
