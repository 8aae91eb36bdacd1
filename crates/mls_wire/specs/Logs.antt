-- Logs: records one after the other, each a vector of a body (RFC 9420, 2.1.2), and the results of reading them. `most`
-- is the number of records that may still come. Used by contracts.
use Rattle.std.specs.Prelude.{◌≡◌, ◌≢◌, ◌<◌, ◌≤◌, ◌+◌, ◌⊎◌, ℕ, List, [], ◌∷◌, ◌++◌, length, Bool, true, false, Option, Some, Result, Ok, Err, nat_lt, if◌then◌else◌}
use Rattle.std.specs.Io.KnownBytes.{Consumes, IsAtEnd}
use Rattle.mls_wire.specs.declared.log.LogStep.{LogStep}
use Rattle.mls_wire.specs.declared.log.LogStep.TheVariants as steps
use Rattle.mls_wire.specs.declared.fault.RunFault.{RunFault}
use Rattle.mls_wire.specs.declared.fault.RunFault.TheVariants as faults
use Rattle.mls_wire.specs.Limits.{input_limit}
use Rattle.mls_wire.specs.Encoding.{vector}

-- `length_size first` is the number of bytes of a length whose first byte is `first` (RFC 9420, 2.1.2). The prefix 11
-- begins no length; one byte shows it.
unfoldable pub length_size : ℕ → ℕ
length_size first =
    if nat_lt first 64 then 1
    else if nat_lt first 128 then 2
    else if nat_lt first 192 then 4
    else 1

-- `IsRecord read body`: the bytes `read` are the vector of `body`, which is within the limit of an input.
pub record IsRecord (read body : List ℕ) : Type 0 where
  pub encoded : vector body ≡ Some read
  pub bounded : length body ≤ input_limit

-- `IsBadLength read`: the bytes are a whole length that begins no record. It is malformed, or over the limit of an
-- input.
pub record IsBadLength (read : List ℕ) : Type 0 where
  pub first : ℕ
  pub more : List ℕ
  pub begins : read ≡ first ∷ more
  pub whole : length read ≡ length_size first
  pub none : (body rest : List ℕ) → IsRecord (read ++ rest) body → ⊥

-- `IsTruncatedRecord read`: there are bytes, and they end within the length or the body of a record.
pub record IsTruncatedRecord (read : List ℕ) : Type 0 where
  pub first : ℕ
  pub more : List ℕ
  pub begins : read ≡ first ∷ more
  pub stops : (length read < length_size first)
      ⊎ ((body : List ℕ) × (rest : List ℕ) × (rest ≢ []) × IsRecord (read ++ rest) body)

-- `IsIncomplete most read`: the bytes do not determine what comes next. There are none, or they are a truncated record
-- that may still come.
abbrev pub IsIncomplete : ℕ → List ℕ → Type 0
IsIncomplete most read = (read ≡ []) ⊎ ((0 < most) × IsTruncatedRecord read)

-- `IsBrokenAt most read left`: the log is broken at the bytes `read`, after which `left` is left. They are a byte after
-- the last record that may come, a bad length, or a truncated record at the end of the log.
abbrev pub IsBrokenAt : ℕ → List ℕ → Option (List ℕ) → Type 0
IsBrokenAt most read left = ((most ≡ 0) × (length read ≡ 1)) ⊎ ((0 < most) × (IsBadLength read ⊎ (IsTruncatedRecord read × IsAtEnd left)))

-- The model of a reader of records: how many may still come, whether the log is over, and the body of the record that
-- the last call read.
pub record LogState : Type 0 where
  pub most : ℕ
  pub is_over : Bool
  pub body : List ℕ

-- The model of a reader of records that holds its source: the source, and the model of the reader.
pub record HeldLog (R : Type 0) : Type 0 where
  pub source : R
  pub log : LogState

-- `unread_log most` is the model of a reader that has read nothing.
abbrev pub unread_log : ℕ → LogState
unread_log most = record { most = most; is_over = false; body = [] }

-- `ended old` is the model of a reader whose log is over.
abbrev pub ended : LogState → LogState
ended old = record { most = old.most; is_over = true; body = [] }

-- `ReadsRecord before after most body result`: what a call reads from a log that had `before` left and then has
-- `after`. It is a record with this body, the end, a break, or a fault, which is not of writing, before it is known what
-- comes next. The call reads these bytes and no others.
abbrev pub ReadsRecord : Option (List ℕ) → Option (List ℕ) → ℕ → List ℕ → Result LogStep RunFault → Type 0
ReadsRecord before after most body (Ok steps.Record) =
    (0 < most) × (read : List ℕ) × Consumes before after read × IsRecord read body
ReadsRecord before after most body (Ok steps.End) = Consumes before after [] × IsAtEnd after
ReadsRecord before after most body (Ok steps.Broken) = (read : List ℕ) × Consumes before after read × IsBrokenAt most read after
ReadsRecord before after most body (Ok steps.Over) = ⊥
ReadsRecord before after most body (Err fault) =
    (fault ≢ faults.Write) × (read : List ℕ) × Consumes before after read × IsIncomplete most read

-- `ReaderAfter old new result`: after a record one fewer may come. After every other result the log is over.
abbrev pub ReaderAfter : LogState → LogState → Result LogStep RunFault → Type 0
ReaderAfter old new (Ok steps.Record) = (old.most ≡ new.most + 1) × (new.is_over ≡ false)
ReaderAfter old new (Ok steps.End) = new ≡ ended old
ReaderAfter old new (Ok steps.Broken) = new ≡ ended old
ReaderAfter old new (Ok steps.Over) = new ≡ ended old
ReaderAfter old new (Err fault) = new ≡ ended old

-- `is_read_fault result`: the result is that the source failed.
abbrev pub is_read_fault : {A : Type 0} → Result A RunFault → Bool
is_read_fault (Ok x) = false
is_read_fault (Err faults.Read) = true
is_read_fault (Err faults.Write) = false
is_read_fault (Err faults.Memory) = false

-- `NextRecordIsDeterministic`: known bytes determine what comes next, where it ends, and the body of a record.
abbrev pub NextRecordIsDeterministic : Type 0
NextRecordIsDeterministic = (before after other : List ℕ) (most : ℕ) (body more : List ℕ) (s t : LogStep)
    → ReadsRecord (Some before) (Some after) most body (Ok s) → ReadsRecord (Some before) (Some other) most more (Ok t)
    → (s ≡ t) × (after ≡ other) × (s ≡ steps.Record → body ≡ more)
