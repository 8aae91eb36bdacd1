-- Fingerprints of keys. Used by contracts.
use Rattle.std.specs.Prelude.{ℕ, List}
use Rattle.sha2.specs.Sha256.{sha256}
use Rattle.mls_nodes.specs.KeyPrefix.{key_prefix}

-- `fingerprint key` is the first eight bytes of the SHA-256 of a key, as a number. So nobody can choose it.
unfoldable pub fingerprint : List ℕ → ℕ
fingerprint key = key_prefix (sha256 key)
