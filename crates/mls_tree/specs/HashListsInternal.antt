-- How hashes of one length, and slots that may be empty, are stored as bytes. Internal: no public contract uses this.
use Rattle.std.specs.Prelude.{◌≡◌, ℕ, zero, suc, ◌+◌, ◌*◌, ◌≤◌, Bool, true, false, if◌then◌else◌, List, [], ◌∷◌, length, take, drop, Option, Some, None}

-- `hashes_in width count bytes` is the first `count` hashes of `width` bytes each.
abbrev pub hashes_in : ℕ → ℕ → List ℕ → List (List ℕ)
hashes_in width zero bytes = []
hashes_in width (suc count) bytes = take width bytes ∷ hashes_in width count (drop width bytes)

-- `FillsBytes width count bytes`: these are the bytes of that many hashes, and a hash value can have as many.
pub record FillsBytes (width count : ℕ) (bytes : List ℕ) : Type 0 where
  pub short : width ≤ 64
  pub long : length bytes ≡ count * width

-- `known_hashes marks hashes` is the hashes that are marked as known, each at its index.
abbrev pub known_hashes : List Bool → List (List ℕ) → List (Option (List ℕ))
known_hashes [] hashes = []
known_hashes (is_known ∷ rest) [] = []
known_hashes (is_known ∷ rest) (hash ∷ hashes) = (if is_known then Some hash else None) ∷ known_hashes rest hashes

-- `false_count marks` is how often `false` is in the list.
abbrev pub false_count : List Bool → ℕ
false_count [] = 0
false_count (false ∷ rest) = suc (false_count rest)
false_count (true ∷ rest) = false_count rest

-- Slots of one width, each empty or with a hash, and for how many there is capacity.
pub record EqualSlots : Type 0 where
  pub width : ℕ
  pub items : List (Option (List ℕ))
  pub marks_room : ℕ
  pub hashes_room : ℕ

-- `CanExtend slots`: there is capacity for as many slots as there are, and one more.
pub record CanExtend (slots : EqualSlots) : Type 0 where
  pub marks : length slots.items + (length slots.items + 1) ≤ slots.marks_room
  pub hashes : length slots.items + (length slots.items + 1) ≤ slots.hashes_room
