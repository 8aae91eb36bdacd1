-- The supported cipher suites (RFC 9420, 17.1), and the lengths of their keys. Used by contracts.
use Rattle.std.specs.Prelude.{ℕ, ◌≤◌, Bool, ◌&&◌, ◌||◌, ◌==◌, nat_le, if◌then◌else◌}

-- `IsSupported suite`: it is one of the suites 1 to 7, which hash with SHA-256, SHA-384 or SHA-512 (RFC 9420, 17.1).
abbrev pub IsSupported : ℕ → Type 0
IsSupported suite = (1 ≤ suite) × (suite ≤ 7)

-- `is_supported suite`: the same as a test.
abbrev pub is_supported : ℕ → Bool
is_supported suite = nat_le 1 suite && nat_le suite 7

-- `hpke_key_length suite` is the length in bytes of a public key of the suite's KEM, and of its `kem_output` (RFC 9180,
-- 7.1: Npk and Nenc): of X25519 in the suites 1 and 3, P-256 in 2, X448 in 4 and 6, P-521 in 5, P-384 in 7.
abbrev pub hpke_key_length : ℕ → ℕ
hpke_key_length suite =
    if (suite == 1) || (suite == 3) then 32 else (if suite == 2 then 65 else (if suite == 5 then 133 else (if suite == 7 then 97 else 56)))

-- `signature_key_length suite` is the length in bytes of a public signature key of the suite (RFC 9420, 5.1.1): of Ed25519
-- in the suites 1 and 3 (RFC 8032, 5.1.5), an uncompressed point of P-256 in 2, Ed448 in 4 and 6 (RFC 8032, 5.2.5), an
-- uncompressed point of P-521 in 5, P-384 in 7 (RFC 8446, 4.2.8.2).
abbrev pub signature_key_length : ℕ → ℕ
signature_key_length suite =
    if (suite == 1) || (suite == 3) then 32 else (if suite == 2 then 65 else (if suite == 5 then 133 else (if suite == 7 then 97 else 57)))
