-- Results of the steps that encode and decode a state file. Internal: no public contract uses this.
use Rattle.std.specs.Prelude.{◌≡◌, ℕ, List, Option, Some, None, IsSome, Result, Ok, Err}
use Rattle.sha2.specs.Sha256.{sha256}
use Rattle.mls_wire.specs.declared.fault.CodecFault.{CodecFault}
use Rattle.mls_wire.specs.declared.fault.CodecFault.TheVariants as codec
use Rattle.mls_wire.specs.declared.fault.WireFaultKind.TheVariants as kinds
use Rattle.mls_state.specs.declared.fault.StateFileFault.{StateFileFault}
use Rattle.mls_state.specs.declared.fault.StateFileFault.TheVariants.{Unreadable, OutOfMemory}

-- `state_file_fault f` is the fault of a codec as one of a state file
abbrev pub state_file_fault : CodecFault → StateFileFault
state_file_fault (codec.Wire f) = Unreadable f
state_file_fault codec.OutOfMemory = OutOfMemory

-- the result of `checksum_of` for a state with this encoding
abbrev pub MakesChecksum : Option (List ℕ) → Result (List ℕ) CodecFault → Type 0
MakesChecksum None (Ok digest) = ⊥
MakesChecksum (Some body) (Ok digest) = digest ≡ sha256 body
MakesChecksum encoding (Err (codec.Wire f)) = (encoding ≡ None) × (f.kind ≡ kinds.TooLong)
MakesChecksum encoding (Err codec.OutOfMemory) = IsSome encoding
