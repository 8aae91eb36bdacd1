-- The public key in an X.509 certificate (RFC 5280, 4.1), in DER (X.690, 8.1 and 10.1). Used by contracts.
use Rattle.std.specs.Prelude.{ℕ, ◌+◌, ◌-◌, ◌*◌, ◌^◌, ◌==◌, nat_le, nat_lt, Bool, true, false, ◌&&◌, if◌then◌else◌, List, [], ◌∷◌, length, take, drop, Option, Some, None}
use Rattle.std.specs.Str.{bytes_eq}
use Rattle.mls_wire.specs.Parsing.{◌>>=◌}
use Rattle.mls_nodes.specs.declared.credential.Credential.{Credential}
use Rattle.mls_nodes.specs.declared.credential.Credential.TheVariants as credentials

-- ---- elements of DER

-- `be_number n b` is the number whose digits to the base 256 are those of n, followed by the bytes.
unfoldable pub be_number : ℕ → List ℕ → ℕ
be_number n [] = n
be_number n (x ∷ xs) = be_number (n * 256 + x) xs

-- `long_length size b` is a length in `size` bytes, and what follows. It takes the fewest bytes, and none below 128 is
-- encoded so (X.690, 8.1.3.5 and 10.1).
unfoldable pub long_length : ℕ → List ℕ → Option (ℕ × List ℕ)
long_length size b =
    if nat_lt (length b) size then None
    else (let n = be_number 0 (take size b) in
    if nat_le 128 n && nat_le (256 ^ (size - 1)) n then Some (n, drop size b) else None)

-- `der_length b` is the length at the front, in one byte, or in one to four after the byte that says how many, and what
-- follows (X.690, 8.1.3).
unfoldable pub der_length : List ℕ → Option (ℕ × List ℕ)
der_length [] = None
der_length (n ∷ b) =
    if nat_lt n 128 then Some (n, b) else (if nat_le 129 n && nat_le n 132 then long_length (n - 128) b else None)

-- `element tag b` is the contents of the element at the front, which has this tag, and what follows (X.690, 8.1).
unfoldable pub element : ℕ → List ℕ → Option (List ℕ × List ℕ)
element tag [] = None
element tag (t ∷ b) =
    if t == tag
    then (der_length b >>= λ n. if nat_lt (length n.1) n.0 then None else Some (take n.0 n.1, drop n.0 n.1))
    else None

-- `whole o` is the contents of an element that nothing follows.
abbrev pub whole : Option (List ℕ × List ℕ) → Option (List ℕ)
whole None = None
whole (Some (contents, [])) = Some contents
whole (Some (contents, b ∷ bs)) = None

-- The tags: INTEGER, BIT STRING, SEQUENCE, and [0] (X.690, 8.3, 8.6, 8.9 and 8.14).
abbrev pub integer : ℕ
integer = 2

abbrev pub bit_string : ℕ
bit_string = 3

abbrev pub sequence : ℕ
sequence = 48

abbrev pub version_tag : ℕ
version_tag = 160

-- ---- certificates

-- `behind tags b` is what follows the elements with these tags.
unfoldable pub behind : List ℕ → List ℕ → Option (List ℕ)
behind [] b = Some b
behind (tag ∷ tags) b = element tag b >>= λ e. behind tags e.1

-- `behind_version b` is what follows the version, if there is one (RFC 5280, 4.1.2.1).
abbrev pub behind_version : List ℕ → Option (List ℕ)
behind_version [] = Some []
behind_version (t ∷ b) = if t == version_tag then behind (version_tag ∷ []) (t ∷ b) else Some (t ∷ b)

-- `bits b` is the bytes of a bit string's contents, which begin with the number of bits that the last byte lacks: none.
abbrev pub bits : List ℕ → Option (List ℕ)
bits [] = None
bits (unused ∷ b) = if unused == 0 then Some b else None

-- `key_bits b` is the subjectPublicKey in the contents of a SubjectPublicKeyInfo, which it ends (RFC 5280, 4.1.2.7).
unfoldable pub key_bits : List ℕ → Option (List ℕ)
key_bits b = do
  key ← behind (sequence ∷ []) b
  contents ← whole (element bit_string key)
  bits contents

-- `certificate_key c` is the bytes of the public key in a certificate. Of the TBSCertificate the serial number, the
-- algorithm, the issuer, the validity and the subject are skipped; what follows its SubjectPublicKeyInfo, and what follows it,
-- is not read (RFC 5280, 4.1).
unfoldable pub certificate_key : List ℕ → Option (List ℕ)
certificate_key c = do
  certificate ← whole (element sequence c)
  tbs ← element sequence certificate
  fields ← behind_version tbs.0
  info ← behind (integer ∷ sequence ∷ sequence ∷ sequence ∷ sequence ∷ []) fields
  key_info ← element sequence info
  key_bits key_info.0

-- ---- credentials

-- `is_key key o`: there are bytes, and they are the key's.
abbrev pub is_key : List ℕ → Option (List ℕ) → Bool
is_key key None = false
is_key key (Some b) = bytes_eq b key

-- `certifies key c`: the credential is basic, or the key is that of the first of its certificates (RFC 9420, 5.3).
abbrev pub certifies : List ℕ → Credential → Bool
certifies key (credentials.Basic identity) = true
certifies key (credentials.X509 []) = false
certifies key (credentials.X509 (c ∷ chain)) = is_key key (certificate_key c)
