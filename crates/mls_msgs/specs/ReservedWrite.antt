-- Results of calls that reserve memory before they write. Internal: no public contract uses this.
use Rattle.std.specs.Prelude.{◌≡◌, ℕ, [], Option, None, IsSome, Result, Ok, Err}
use Rattle.mls_wire.specs.WriteContracts.{Added}
use Rattle.mls_wire.specs.Faults.{too_long_at}
use Rattle.mls_wire.specs.declared.fault.CodecFault.{CodecFault}
use Rattle.mls_wire.specs.declared.fault.CodecFault.TheVariants as faults

-- `MakesRoom size result`: the call returned an empty draft. There is a wire fault if and only if there is no size, and
-- it is TooLong at 0.
abbrev pub MakesRoom : Option ℕ → Result Added CodecFault → Type 0
MakesRoom size (Ok draft) = IsSome size × (draft.kept ≡ []) × (draft.more ≡ [])
MakesRoom size (Err (faults.Wire f)) = (size ≡ None) × (f ≡ too_long_at 0)
MakesRoom size (Err faults.OutOfMemory) = IsSome size
