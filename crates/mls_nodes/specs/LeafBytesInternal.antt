-- Bytes that encode a leaf node, and the input that they may be shared with. Internal: no public contract uses this.
use Rattle.std.specs.Prelude.{◌≡◌, ◌≤◌, ◌-◌, ℕ, List, length, Option, Some, None, slice_range}
use Rattle.mls_wire.specs.Input.{Input}
use Rattle.mls_nodes.specs.declared.leaf_bytes.InputPart.{InputPart}
use Rattle.mls_nodes.specs.declared.leaf_bytes.Stored.{Stored}
use Rattle.mls_nodes.specs.declared.leaf_bytes.Stored.TheVariants.{Own, Part}

-- `bytes_in s` is the list of the bytes.
abbrev pub bytes_in : Stored → List ℕ
bytes_in (Own bytes) = bytes.items
bytes_in (Part input start end) = slice_range input.items start end

-- `AreWithin s`: bytes that are a part of an input are within it.
abbrev pub AreWithin : Stored → Type 0
AreWithin (Own bytes) = Unit {0}
AreWithin (Part input start end) = (start ≤ end) × (end ≤ length input.items)

-- `IsLastOf part i`: what is left of `i` is the last of the part.
abbrev pub IsLastOf : InputPart → Input → Type 0
IsLastOf part i =
    (part.end ≤ length part.input.now.items)
    × (length i.left ≤ part.end)
    × (slice_range part.input.now.items (part.end - length i.left) part.end ≡ i.left)

-- `IsFrom source i`: what is left of `i` is from the input, if one is given.
abbrev pub IsFrom : Option InputPart → Input → Type 0
IsFrom None i = Unit {0}
IsFrom (Some part) i = IsLastOf part i
