-- The hash function of a cipher suite (RFC 9420, 17.1), and references (5.2). Used by contracts.
use Rattle.std.specs.Prelude.{ℕ, nat_le, if◌then◌else◌, List, Option}
use Rattle.sha2.specs.Sha256.{sha256}
use Rattle.sha2.specs.Sha512.{sha384, sha512}
use Rattle.mls_wire.specs.Encoding.{◌⊕◌, vector}
use Rattle.mls_tree.specs.declared.hash_kind.HashKind.{HashKind}
use Rattle.mls_tree.specs.declared.hash_kind.HashKind.TheVariants.{Sha256, Sha384, Sha512}

-- `hash_of suite` is the hash function of a suite: SHA-256 for the suites 1, 2 and 3, SHA-512 for 4, 5 and 6, SHA-384
-- for 7 (RFC 9420, 17.1).
unfoldable pub hash_of : ℕ → List ℕ → List ℕ
hash_of suite = if nat_le suite 3 then sha256 else (if nat_le suite 6 then sha512 else sha384)

-- `kind_of suite` names this hash function for the hash cache of a tree.
unfoldable pub kind_of : ℕ → HashKind
kind_of suite = if nat_le suite 3 then Sha256 else (if nat_le suite 6 then Sha512 else Sha384)

-- `hash_length suite` is the number of bytes of its hashes.
unfoldable pub hash_length : ℕ → ℕ
hash_length suite = if nat_le suite 3 then 32 else (if nat_le suite 6 then 64 else 48)

-- `ref_hash_input label value` is the encoding of RefHashInput: the label and the value, each as a vector (RFC 9420,
-- 5.2).
abbrev pub ref_hash_input : List ℕ → List ℕ → Option (List ℕ)
ref_hash_input label value = vector label ⊕ vector value
