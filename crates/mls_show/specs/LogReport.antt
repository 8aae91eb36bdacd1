-- The report `show log`: a line for each record of a log, and a last one. `left0` and `left1` are what the log has left
-- before and after, `written0` and `written1` what the output holds. Messages are decoded in `profile`. Used by contracts.
use Rattle.std.specs.Prelude.{ℕ, ◌+◌, ◌-◌, ◌≤◌, List, [], ◌∷◌, ◌++◌, length, map, codes, Bool, true, false, Option, Some, ◌≡◌, ◌⊎◌}
use Rattle.std.specs.Fmt.{decimal}
use Rattle.std.specs.List.{list_all}
use Rattle.std.specs.Io.KnownBytes.{Appends, Consumes, IsAtEnd}
use Rattle.mls_wire.specs.Encoding.{items, vector}
use Rattle.mls_wire.specs.Logs.{IsRecord, IsBrokenAt, IsIncomplete}
use Rattle.mls_wire.specs.declared.fault.RunFault.{RunFault}
use Rattle.mls_wire.specs.declared.fault.RunFault.TheVariants.{Read, Write, Memory}
use Rattle.mls_msgs.specs.declared.profile.Profile.{Profile}
use Rattle.mls_show.specs.InputReports.{ShowsMessage}
use Rattle.mls_show.specs.declared.verdict.Verdict.{Verdict}
use Rattle.mls_show.specs.declared.verdict.Verdict.TheVariants.{Yes, No}

-- The most records of a log that is shown: a limit of this library.
abbrev pub record_limit : ℕ
record_limit = 4294967295

-- A record that is shown: its body, and the report of `show message` on it, with the verdict.
pub record ShownRecord : Type 0 where
  pub body : List ℕ
  pub text : List ℕ
  pub verdict : Verdict

-- `AreShown profile records`: the reports of the records are those of their bodies.
abbrev pub AreShown : Profile → List ShownRecord → Type 0
AreShown profile [] = Unit {0}
AreShown profile (r ∷ records) = ShowsMessage profile r.body r.text r.verdict × AreShown profile records

-- `record_line number r` is the line of the record with a number: the number, the length of the record's body, and the report
-- on it.
abbrev pub record_line : ℕ → ShownRecord → List ℕ
record_line number r = decimal number ++ (codes " " ++ (decimal (length r.body) ++ (codes " " ++ r.text)))

-- `record_lines number records` is the lines of records, the first of which has this number.
abbrev pub record_lines : ℕ → List ShownRecord → List ℕ
record_lines number [] = []
record_lines number (r ∷ records) = record_line number r ++ record_lines (number + 1) records

-- `last_line broken count at` is the last line of a log with `count` whole records, which have `at` bytes: how many they are,
-- and if the log is broken, the offset at which that begins which is no record.
abbrev pub last_line : Bool → ℕ → ℕ → List ℕ
last_line false count at = codes "records " ++ (decimal count ++ codes "\n")
last_line true count at = codes "records " ++ (decimal count ++ (codes " broken " ++ (decimal at ++ codes "\n")))

-- `is_yes verdict`: the verdict is Yes.
abbrev pub is_yes : Verdict → Bool
is_yes Yes = true
is_yes No = false

-- `are_readable records`: each of the records can be read as a message.
abbrev pub are_readable : List ShownRecord → Bool
are_readable records = list_all (λ r. is_yes r.verdict) records

-- `log_verdict broken readable` is Yes if the log is not broken and each of its records can be read, else No.
abbrev pub log_verdict : Bool → Bool → Verdict
log_verdict false true = Yes
log_verdict _ _ = No

-- `IsLogEnd most rest left broken`: a log of which `most` records may still come is broken, as the bytes `rest` show, or has
-- ended.
abbrev pub IsLogEnd : ℕ → List ℕ → Option (List ℕ) → Bool → Type 0
IsLogEnd most rest left true = IsBrokenAt most rest left
IsLogEnd most rest left false = (rest ≡ []) × IsAtEnd left

-- `records_left records` is how many records may still come.
abbrev pub records_left : List ShownRecord → ℕ
records_left records = record_limit - length records

-- `ReadsRecords profile left0 left1 records rest`: the records were read of the log, and then the bytes `rest`. The
-- encodings of the records are `read`.
pub record ReadsRecords (profile : Profile) (left0 left1 : Option (List ℕ)) (records : List ShownRecord) (rest : List ℕ)
    : Type 0 where
  pub shown : AreShown profile records
  pub bounded : length records ≤ record_limit
  pub read : List ℕ
  pub encoded : items vector (map (λ r. r.body) records) ≡ Some read
  pub log_read : Consumes left0 left1 (read ++ rest)

-- `ShowsLog profile left0 left1 written0 written1 verdict`: the line of each record was written, the log has ended or is
-- broken, and the last line was written.
pub record ShowsLog (profile : Profile) (left0 left1 written0 written1 : Option (List ℕ)) (verdict : Verdict)
    : Type 0 where
  pub records : List ShownRecord
  pub rest : List ℕ
  pub broken : Bool
  pub reads : ReadsRecords profile left0 left1 records rest
  pub log_end : IsLogEnd (records_left records) rest left1 broken
  pub wrote : Appends written0 written1
      (record_lines 1 records ++ last_line broken (length records) (length reads.read))
  pub verdict_is : verdict ≡ log_verdict broken (are_readable records)

-- `StopsReading profile left0 left1 written0 written1`: the log failed. The line of each whole record that was read was
-- written, and the bytes after these determine nothing more.
pub record StopsReading (profile : Profile) (left0 left1 written0 written1 : Option (List ℕ)) : Type 0 where
  pub records : List ShownRecord
  pub rest : List ℕ
  pub reads : ReadsRecords profile left0 left1 records rest
  pub undecided : IsIncomplete (records_left records) rest
  pub wrote : Appends written0 written1 (record_lines 1 records)

-- `StopsInLine profile left0 left1 written0 written1`: the output failed in the line of the last record that was read.
-- Nothing was read after that record.
pub record StopsInLine (profile : Profile) (left0 left1 written0 written1 : Option (List ℕ)) : Type 0 where
  pub records : List ShownRecord
  pub last : ShownRecord
  pub reads : ReadsRecords profile left0 left1 (records ++ last ∷ []) []
  pub part : List ℕ
  pub more : List ℕ
  pub line_is : record_line (length records + 1) last ≡ part ++ more
  pub wrote : Appends written0 written1 (record_lines 1 records ++ part)

-- `StopsInLastLine profile left0 left1 written0 written1`: the output failed in the last line.
pub record StopsInLastLine (profile : Profile) (left0 left1 written0 written1 : Option (List ℕ)) : Type 0 where
  pub records : List ShownRecord
  pub rest : List ℕ
  pub broken : Bool
  pub reads : ReadsRecords profile left0 left1 records rest
  pub log_end : IsLogEnd (records_left records) rest left1 broken
  pub part : List ℕ
  pub more : List ℕ
  pub line_is : last_line broken (length records) (length reads.read) ≡ part ++ more
  pub wrote : Appends written0 written1 (record_lines 1 records ++ part)

-- `IsLeftOver most rest left`: what was read after the records that have lines when memory ran out. It is incomplete, one
-- more record, or what shows that the log has ended or is broken.
abbrev pub IsLeftOver : ℕ → List ℕ → Option (List ℕ) → Type 0
IsLeftOver most rest left =
    IsIncomplete most rest ⊎ (((body : List ℕ) × IsRecord rest body) ⊎ ((broken : Bool) × IsLogEnd most rest left broken))

-- `StopsWithoutMemory profile left0 left1 written0 written1`: memory ran out. The line of each record that was read was
-- written, except that at which it ran out.
pub record StopsWithoutMemory (profile : Profile) (left0 left1 written0 written1 : Option (List ℕ)) : Type 0 where
  pub records : List ShownRecord
  pub rest : List ℕ
  pub reads : ReadsRecords profile left0 left1 records rest
  pub left_over : IsLeftOver (records_left records) rest left1
  pub wrote : Appends written0 written1 (record_lines 1 records)

-- `StopsLog profile left0 left1 written0 written1 fault`: what was written if the report of the log was not written whole, by
-- the fault that is returned.
abbrev pub StopsLog : Profile → Option (List ℕ) → Option (List ℕ) → Option (List ℕ) → Option (List ℕ) → RunFault
    → Type 0
StopsLog profile left0 left1 written0 written1 Read = StopsReading profile left0 left1 written0 written1
StopsLog profile left0 left1 written0 written1 Write =
    StopsInLine profile left0 left1 written0 written1 ⊎ StopsInLastLine profile left0 left1 written0 written1
StopsLog profile left0 left1 written0 written1 Memory = StopsWithoutMemory profile left0 left1 written0 written1
