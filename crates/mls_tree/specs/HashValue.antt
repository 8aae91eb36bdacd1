-- The bytes of a `HashValue` in its array. Internal: no public contract uses this.
use Rattle.std.specs.Prelude.{◌≡◌, ℕ, ◌≤◌, ◌-◌, List, ◌∷◌, ◌++◌, length, take, drop, get_or, replicate}

-- The bytes in an array: the first number is their length.
abbrev pub bytes_in : List ℕ → List ℕ
bytes_in array = take (get_or array 0 0) (drop 1 array)

-- The length of the bytes, the bytes, and zeros, 65 in all.
abbrev pub padded : List ℕ → List ℕ
padded bytes = length bytes ∷ (bytes ++ replicate (64 - length bytes) 0)

-- The array is that of its bytes.
pub record IsPadded (array : List ℕ) : Type 0 where
  pub low : get_or array 0 0 ≤ 64
  pub fits : length (bytes_in array) ≡ get_or array 0 0
  pub whole : padded (bytes_in array) ≡ array
