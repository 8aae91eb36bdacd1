-- Files of test vectors: a JSON array (RFC 8259) of objects, and what an object has under a name. `d` is a value of
-- JSON. Used by contracts.
use Rattle.std.specs.Prelude.{ℕ, ◌+◌, ◌*◌, ◌<◌, List, length, ◌≡◌, ◌⊎◌, Bool, true, ◌&&◌, is_some, Option, Some, None, option_and_then, if◌then◌else◌}
use Rattle.std.specs.Str.{IsUtf8}
use Rattle.hex.specs.Hex.{decode_of}
use Rattle.serde_json.specs.Data.{Num, Data, Items, no_items, item}
use Rattle.serde_json.specs.Find.{get, as_array, as_object, as_number, as_str, as_u64}
use Rattle.serde_json.specs.Read.{read}
use Rattle.mls_wire.specs.Limits.{input_limit}
use Rattle.mls_check.specs.Receipts.{decoded}
use Rattle.mls_vectors.specs.TextWeight.{IsTooHeavy}

-- `are_objects items`: each value is an object.
abbrev pub are_objects : Items → Bool
are_objects no_items = true
are_objects (item d ds) = is_some (as_object d) && are_objects ds

-- `objects items` is the values of an array, if all are objects.
abbrev pub objects : Items → Option Items
objects ds = if are_objects ds then Some ds else None

-- `vectors_of d` is the vectors of a value: an array of objects.
abbrev pub vectors_of : Data → Option Items
vectors_of d = option_and_then objects (as_array d)

-- `HoldsVectors bytes vectors`: the bytes are a JSON text with these vectors.
pub record HoldsVectors (bytes : List ℕ) (vectors : Items) : Type 0 where
  pub utf8 : IsUtf8 bytes
  pub reads : option_and_then vectors_of (read bytes) ≡ Some vectors

-- `HoldsNoVectors bytes`: no vectors are read from the bytes. There are more than the limit of an input, or they are too
-- heavy, or they are no such text.
abbrev pub HoldsNoVectors : List ℕ → Type 0
HoldsNoVectors bytes =
    (input_limit < length bytes) ⊎ (IsTooHeavy bytes ⊎ ((vectors : Items) → ¬ HoldsVectors bytes vectors))

-- `number_under name d` is the number of a vector under a name.
abbrev pub number_under : List ℕ → Data → Option Num
number_under name d = option_and_then as_number (get name d)

-- `whole_under name d` is the whole number of a vector under a name, if it is not negative.
abbrev pub whole_under : List ℕ → Data → Option ℕ
whole_under name d = option_and_then as_u64 (number_under name d)

-- `array_under name d` is the array of a vector under a name.
abbrev pub array_under : List ℕ → Data → Option Items
array_under name d = option_and_then as_array (get name d)

-- `hex_bytes text` is the bytes whose hexadecimal digits, of either case, the text is.
abbrev pub hex_bytes : List ℕ → Option (List ℕ)
hex_bytes text = decoded (decode_of text)

-- `bytes_of d` is the bytes of a value that is hexadecimal text.
abbrev pub bytes_of : Data → Option (List ℕ)
bytes_of d = option_and_then hex_bytes (as_str d)

-- `bytes_under name d` is the bytes of a vector under a name, as hexadecimal text.
abbrev pub bytes_under : List ℕ → Data → Option (List ℕ)
bytes_under name d = option_and_then bytes_of (get name d)

-- `AreEntries IsEntry p n items`: the array has an entry for each node index from p on, up to the last one of a tree of
-- n leaves, which has 2 * n - 1 nodes (RFC 9420, Appendix C).
abbrev pub AreEntries : (ℕ → Data → Type 0) → ℕ → ℕ → Items → Type 0
AreEntries IsEntry leaves p no_items = p + 1 ≡ 2 * leaves
AreEntries IsEntry leaves p (item d ds) = IsEntry p d × AreEntries IsEntry leaves (p + 1) ds

-- `HasEntries IsEntry leaves name d`: a vector has an array under a name with such an entry for each node index.
pub record HasEntries (IsEntry : ℕ → Data → Type 0) (leaves : ℕ) (name : List ℕ) (d : Data)
    : Type 0 where
  pub entries : Items
  pub found : array_under name d ≡ Some entries
  pub right : AreEntries IsEntry leaves 0 entries
