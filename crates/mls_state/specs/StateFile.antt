-- What the calls on state files return. Used by contracts.
use Rattle.std.specs.Prelude.{◌≡◌, ◌≤◌, ℕ, List, length, Some, Result, Ok, Err}
use Rattle.sha2.specs.Sha256.{sha256}
use Rattle.mls_wire.specs.Limits.{input_limit}
use Rattle.mls_wire.specs.declared.fault.CodecFault.{CodecFault}
use Rattle.mls_wire.specs.declared.fault.CodecFault.TheVariants as codec
use Rattle.mls_wire.specs.declared.fault.WireFaultKind.TheVariants as kinds
use Rattle.mls_state.specs.Layout.{follower_state, state_file}
use Rattle.mls_state.specs.declared.fault.StateFileFault.{StateFileFault}
use Rattle.mls_state.specs.declared.fault.StateFileFault.TheVariants.{Unreadable, ChecksumDiffers, OutOfMemory}
use Rattle.mls_state.specs.declared.file.StateFile.{StateFile}
use Rattle.mls_state.specs.declared.state.FollowerState.{FollowerState}

-- `HasChecksum f`: the checksum of the file is the SHA-256 digest of its encoded state
pub record HasChecksum (f : StateFile) : Type 0 where
  pub body : List ℕ
  pub encoded : follower_state f.state ≡ Some body
  pub digest : f.checksum ≡ sha256 body

-- `IsFileOf bytes s`: the bytes are the file of the state
pub record IsFileOf (bytes : List ℕ) (s : FollowerState) : Type 0 where
  pub file : StateFile
  pub state : file.state ≡ s
  pub checked : HasChecksum file
  pub encoded : state_file file ≡ Some bytes

-- `MakesStateFile s result`: the result of a call that writes the file of `s`. A fault other than out of memory is `TooLong`,
-- and comes only if no bytes are the file of `s`.
abbrev pub MakesStateFile : FollowerState → Result (List ℕ) CodecFault → Type 0
MakesStateFile s (Ok bytes) = IsFileOf bytes s
MakesStateFile s (Err (codec.Wire f)) = ((bytes : List ℕ) → IsFileOf bytes s → ⊥) × (f.kind ≡ kinds.TooLong)
MakesStateFile s (Err codec.OutOfMemory) = Unit {0}

-- `DecodesStateFile bytes result`: the result of a call that reads a file. `ChecksumDiffers` comes if and only if the bytes
-- encode a file with another checksum; `Unreadable` only if they encode none within the limit of an input.
abbrev pub DecodesStateFile : List ℕ → Result FollowerState StateFileFault → Type 0
DecodesStateFile bytes (Ok s) = IsFileOf bytes s × (length bytes ≤ input_limit)
DecodesStateFile bytes (Err (Unreadable f)) = (file : StateFile) → state_file file ≡ Some bytes → length bytes ≤ input_limit → ⊥
DecodesStateFile bytes (Err ChecksumDiffers) =
    (file : StateFile) × (state_file file ≡ Some bytes) × (HasChecksum file → ⊥)
DecodesStateFile bytes (Err OutOfMemory) = length bytes ≤ input_limit

-- ---- theorems

-- bytes are the file of at most one state
abbrev pub StateIsUnique : Type 0
StateIsUnique = (bytes : List ℕ) (s t : FollowerState) → IsFileOf bytes s → IsFileOf bytes t → s ≡ t

-- a state has at most one file
abbrev pub FileIsUnique : Type 0
FileIsUnique = (a b : List ℕ) (s : FollowerState) → IsFileOf a s → IsFileOf b s → a ≡ b
