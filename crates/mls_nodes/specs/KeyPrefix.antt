-- The 8-byte prefixes of keys, in which nearly all keys differ. Used by contracts.
use Rattle.std.specs.Prelude.{ℕ, List, ◌++◌, replicate, take}
use Rattle.std.specs.Int.{w64, from_be_bytes}

-- `key_prefix key` is the 8-byte prefix of a key as a number, the first byte the highest. A shorter key is followed by
-- zeros.
unfoldable pub key_prefix : List ℕ → ℕ
key_prefix key = from_be_bytes w64 (take 8 (key ++ replicate 8 0))
