-- Lists of hashes of one length, as their bytes. Used by contracts.
use Rattle.std.specs.Prelude.{ℕ, List}

-- Hashes of `width` bytes each.
pub record EqualHashes : Type 0 where
  pub width : ℕ
  pub hashes : List (List ℕ)
