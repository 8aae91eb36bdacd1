-- The bytes of a body that are stored in place or on the heap. Internal: no public contract uses this.
use Rattle.std.specs.Prelude.{ℕ, ◌≤◌, ◌<◌, List, length}
use Rattle.mls_wire.specs.Limits.{short_limit}
use Rattle.mls_wire.specs.declared.opaque.Stored.{Stored}
use Rattle.mls_wire.specs.declared.opaque.Stored.TheVariants.{InPlace, OnHeap}

-- `bytes_in s` is the list of the bytes.
abbrev pub bytes_in : Stored → List ℕ
bytes_in (InPlace bytes) = bytes
bytes_in (OnHeap bytes) = bytes.items

-- The bytes are stored in place if and only if there are at most 38.
abbrev pub IsInPlaceIfShort : Stored → Type 0
IsInPlaceIfShort (InPlace bytes) = length bytes ≤ short_limit
IsInPlaceIfShort (OnHeap bytes) = short_limit < length bytes.items
