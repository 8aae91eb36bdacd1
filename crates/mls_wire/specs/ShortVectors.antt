-- The bytes of a short vector in its array. Internal: no public contract uses this.
use Rattle.std.specs.Prelude.{◌≡◌, ℕ, ◌≤◌, List, length, take, drop, get_or}
use Rattle.mls_wire.specs.Limits.{short_limit}

-- The body: the first number is its length.
abbrev pub body_in : List ℕ → List ℕ
body_in array = take (get_or array 0 0) (drop 1 array)

-- The array has a body of at most 38 bytes.
pub record IsShortVector (array : List ℕ) : Type 0 where
  pub low : get_or array 0 0 ≤ short_limit
  pub room : length array ≡ 39
