-- Devices that give and take bytes: what contracts know of one, what a failed write may have written, when a call has a
-- fault of a device, and devices over memory. Used by contracts.
use Rattle.std.specs.Prelude.{ℕ, ◌+◌, ◌-◌, ◌≡◌, List, ◌++◌, length, min, Bool, true, false, Result, Err, ◌↔◌, ◌||◌, ◌&&◌, not, Option, Some, None, nat_eq}
use Rattle.std.specs.Io.KnownBytes.{Appends}
use Rattle.mls_wire.specs.declared.fault.RunFault.{RunFault}
use Rattle.mls_wire.specs.declared.fault.RunFault.TheVariants.{Read, Write}

-- A device: the bytes that a source has left, or that a sink holds, `Some bytes`, or `None` if they are not known; and
-- whether it has failed.
pub record Device : Type 0 where
  pub bytes : Option (List ℕ)
  pub has_failed : Bool

-- `working bytes` is a device with these bytes that has not failed.
abbrev pub working : Option (List ℕ) → Device
working bytes = record { bytes = bytes; has_failed = false }

-- `IsWorking d`: the device has not failed.
abbrev pub IsWorking : Device → Type 0
IsWorking d = d.has_failed ≡ false

-- `HasFailed d`: the device has failed.
abbrev pub HasFailed : Device → Type 0
HasFailed d = d.has_failed ≡ true

-- `ReadFails result d`: the call had a fault of reading if and only if this source has failed.
abbrev pub ReadFails : {A : Type 0} → Result A RunFault → Device → Type 0
ReadFails result d = (result ≡ Err Read) ↔ HasFailed d

-- `WriteFails result d`: the call had a fault of writing if and only if this sink has failed.
abbrev pub WriteFails : {A : Type 0} → Result A RunFault → Device → Type 0
WriteFails result d = (result ≡ Err Write) ↔ HasFailed d

-- `AppendsPrefix old new text`: a prefix of `text` was written to a sink that held `old` and now holds `new`.
abbrev pub AppendsPrefix : Option (List ℕ) → Option (List ℕ) → List ℕ → Type 0
AppendsPrefix old new text = (part : List ℕ) × (more : List ℕ) × (text ≡ part ++ more) × Appends old new part

-- `next_call calls` is the number of the next call, counted from 1. It does not go beyond the greatest `usize`.
abbrev pub next_call : ℕ → ℕ
next_call calls = min (calls + 1) 18446744073709551615

-- `is_failing_call fails_at call`: the device fails at the call of this number.
abbrev pub is_failing_call : Option ℕ → ℕ → Bool
is_failing_call None call = false
is_failing_call (Some n) call = nat_eq n call

-- The model of a source over memory: the bytes that are left, the most that it gives in one call, the number of calls
-- so far, the number of the call at which it fails, and whether it has failed.
pub record MemoryLeft : Type 0 where
  pub left : List ℕ
  pub piece : ℕ
  pub calls : ℕ
  pub fails_at : Option ℕ
  pub is_failed : Bool

-- `fails_to_pull s`: the next call of the source fails.
abbrev pub fails_to_pull : MemoryLeft → Bool
fails_to_pull s = s.is_failed || is_failing_call s.fails_at (next_call s.calls)

-- `pulled_count s capacity` is the number of bytes that the next call gives for a buffer of `capacity` bytes, if it
-- does not fail.
abbrev pub pulled_count : MemoryLeft → ℕ → ℕ
pulled_count s capacity = min (min s.piece capacity) (length s.left)

-- The model of a sink over memory: the bytes that it holds, its capacity, the most that it takes in one call, the
-- number of calls so far, the number of the call at which it fails, and whether it has failed.
pub record MemoryHeld : Type 0 where
  pub held : List ℕ
  pub capacity : ℕ
  pub piece : ℕ
  pub calls : ℕ
  pub fails_at : Option ℕ
  pub is_failed : Bool

-- `fails_to_push s count`: the next call of the sink fails for `count` bytes. It also fails if the sink is full and
-- there are any.
abbrev pub fails_to_push : MemoryHeld → ℕ → Bool
fails_to_push s count = s.is_failed || is_failing_call s.fails_at (next_call s.calls) || (nat_eq (length s.held) s.capacity && not (nat_eq count 0))

-- `pushed_count s count` is the number of bytes, of `count`, that the next call takes, if it does not fail.
abbrev pub pushed_count : MemoryHeld → ℕ → ℕ
pushed_count s count = min (min s.piece count) (s.capacity - length s.held)
