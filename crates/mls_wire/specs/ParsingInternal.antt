-- Reading optional values, and results of calls that read, as functions of the input. Internal: no public contract uses
-- this, except that of `Decode::read`.
use Rattle.std.specs.Prelude.{◌≡◌, Bool, true, false, Option, Some, None, Result, Ok, Err, nat_eq, if◌then◌else◌}
use Rattle.std.specs.Int.{w8}
use Rattle.mls_wire.specs.Parsing.{◌>>=◌, number_at}
use Rattle.mls_wire.specs.declared.fault.WireFault.{WireFault}
use Rattle.mls_wire.specs.declared.fault.CodecFault.{CodecFault}
use Rattle.mls_wire.specs.declared.fault.CodecFault.TheVariants as faults
use Rattle.mls_wire.specs.Input.{Input}

-- `Gives read old new result`: a call returned what `read` returns, with the rest of the input. On error `read` returns
-- `None`, and the input is unchanged.
abbrev pub Gives : {A : Type 0} → (Input → Option (A × Input)) → Input → Input → Result A WireFault → Type 0
Gives read old new (Ok x) = read old ≡ Some (x, new)
Gives read old new (Err f) = (read old ≡ None) × (new ≡ old)

-- `Finds found result`: a call that reads a whole input returned what was found. On error nothing was, or the call ran
-- out of memory.
abbrev pub Finds : {A : Type 0} → Option A → Result A CodecFault → Type 0
Finds found (Ok x) = found ≡ Some x
Finds found (Err (faults.Wire f)) = found ≡ None
Finds found (Err faults.OutOfMemory) = Unit {0}

-- `flag_at i` is the byte before an optional value, as a Boolean (RFC 9420, 2.1.1).
unfoldable pub flag_at : Input → Option (Bool × Input)
flag_at i = do
  b ← number_at w8 i
  if nat_eq b.0 0 then Some (false, b.1) else if nat_eq b.0 1 then Some (true, b.1) else None

-- `optional_at item_at i` is the optional value at the front (RFC 9420, 2.1.1).
unfoldable pub optional_at : {A : Type 0} → (Input → Option (A × Input)) → Input → Option (Option A × Input)
optional_at item_at i = do
  there ← flag_at i
  if there.0 then (item_at there.1 >>= λ x. Some (Some x.0, x.1)) else Some (None, there.1)
