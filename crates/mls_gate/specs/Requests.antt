-- The request of a record of the gate's input: its first byte is a letter (own format). Used by contracts.
use Rattle.std.specs.Prelude.{ℕ, ◌==◌, ◌%◌, List, [], ◌∷◌, length, Option, Some, None, if◌then◌else◌}
use Rattle.std.specs.Int.{from_be_bytes, w64}
use Rattle.mls_start.specs.ReceiptBytes.{receipt_size}
use Rattle.mls_gate.specs.declared.request.Request.{Request}
use Rattle.mls_gate.specs.declared.request.Request.TheVariants.{Learn, Begin, Query, Process, Time, Store}

-- `seconds_size` is how many bytes the seconds of a time have, and `time_of rest` is the request with this time.
abbrev pub seconds_size : ℕ
seconds_size = 8

abbrev pub time_of : List ℕ → Option Request
time_of rest = if length rest == seconds_size then Some (Time (from_be_bytes w64 rest)) else None

-- `request_of body` is the request of a record: `r` and whole receipts, `b` alone, `q` and a message, `m` and a message,
-- `t` and eight bytes, or `s` alone. `None` for every other body.
abbrev pub request_of : List ℕ → Option Request
request_of [] = None
request_of (letter ∷ rest) =
    if letter == 114 then (if length rest % receipt_size == 0 then Some Learn else None)
    else if letter == 98 then (if length rest == 0 then Some Begin else None)
    else if letter == 113 then Some Query
    else if letter == 109 then Some Process
    else if letter == 116 then time_of rest
    else if letter == 115 then (if length rest == 0 then Some Store else None)
    else None
