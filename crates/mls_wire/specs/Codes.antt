-- The codes of a list that is stored in place or on the heap. Internal: no public contract uses this.
use Rattle.std.specs.Prelude.{ℕ, List}
use Rattle.mls_wire.specs.declared.codes.Stored.{Stored}
use Rattle.mls_wire.specs.declared.codes.Stored.TheVariants.{InPlace, OnHeap}

-- `codes_in s` is the list of the codes.
abbrev pub codes_in : Stored → List ℕ
codes_in (InPlace codes) = codes
codes_in (OnHeap codes) = codes.value.items
