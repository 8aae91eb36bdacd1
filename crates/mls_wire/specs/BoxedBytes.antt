-- The bytes of a body in a value of 16 bytes. Internal: no public contract uses this.
use Rattle.std.specs.Prelude.{ℕ, List}
use Rattle.mls_wire.specs.declared.boxed_opaque.Body.{Body}
use Rattle.mls_wire.specs.declared.boxed_opaque.Body.TheVariants.{InPlace, OnHeap}

-- `boxed_bytes b` is the list of the bytes.
abbrev pub boxed_bytes : Body → List ℕ
boxed_bytes (InPlace bytes) = bytes
boxed_bytes (OnHeap body) = body.value
