-- How many bytes encodings have, counted up to the greatest `usize`. Used by contracts.
use Rattle.std.specs.Prelude.{ℕ, ◌+◌, ◌-◌, ◌^◌, List, length, Option, Some, None, min}

-- `saturated n` is `n`, or the greatest `usize` if `n` is larger.
abbrev pub saturated : ℕ → ℕ
saturated n = min n (2 ^ 64 - 1)

-- `size o` is the number of bytes of an encoding, counted so, or `None` if there is no encoding.
unfoldable pub size : Option (List ℕ) → Option ℕ
size None = None
size (Some text) = Some (saturated (length text))

-- `joint_size m n` is the size of two encodings, one after the other, by their sizes.
unfoldable pub joint_size : Option ℕ → Option ℕ → Option ℕ
joint_size None n = None
joint_size (Some m) None = None
joint_size (Some m) (Some n) = Some (saturated (m + n))
