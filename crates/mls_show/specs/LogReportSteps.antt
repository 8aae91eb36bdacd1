-- The steps of the report `show log`. Internal: no public contract uses this.
use Rattle.std.specs.Prelude.{ℕ, List, [], length, Bool, Option, ◌≡◌}
use Rattle.std.specs.Io.KnownBytes.{Appends}
use Rattle.mls_wire.specs.Devices.{AppendsPrefix}
use Rattle.mls_wire.specs.declared.fault.RunFault.{RunFault}
use Rattle.mls_wire.specs.declared.fault.RunFault.TheVariants.{Read, Write, Memory}
use Rattle.mls_msgs.specs.declared.profile.Profile.{Profile}
use Rattle.mls_show.specs.InputReports.{ShowsMessage}
use Rattle.mls_show.specs.LogReport.{ShownRecord, ReadsRecords, IsLogEnd, are_readable, is_yes, record_line, record_lines, records_left}

-- `WritesRecord profile number body written0 written1 readable`: the line of a record with this number and body was written,
-- and `readable` is whether it can be read as a message.
pub record WritesRecord (profile : Profile) (number : ℕ) (body : List ℕ) (written0 written1 : Option (List ℕ))
    (readable : Bool) : Type 0 where
  pub shown : ShownRecord
  pub body_is : shown.body ≡ body
  pub is_shown : ShowsMessage profile shown.body shown.text shown.verdict
  pub readable_is : readable ≡ is_yes shown.verdict
  pub wrote : Appends written0 written1 (record_line number shown)

-- `StopsInRecord profile number body written0 written1`: the output failed in the line of a record.
pub record StopsInRecord (profile : Profile) (number : ℕ) (body : List ℕ) (written0 written1 : Option (List ℕ))
    : Type 0 where
  pub shown : ShownRecord
  pub body_is : shown.body ≡ body
  pub is_shown : ShowsMessage profile shown.body shown.text shown.verdict
  pub wrote : AppendsPrefix written0 written1 (record_line number shown)

-- `StopsAtRecord profile number body written0 written1 fault`: the line of a record was not written whole, by this fault.
abbrev pub StopsAtRecord : Profile → ℕ → List ℕ → Option (List ℕ) → Option (List ℕ) → RunFault → Type 0
StopsAtRecord profile number body written0 written1 Read = ⊥
StopsAtRecord profile number body written0 written1 Write = StopsInRecord profile number body written0 written1
StopsAtRecord profile number body written0 written1 Memory = Appends written0 written1 []

-- `WritesRecords profile left0 left1 written0 written1 count at readable broken`: the lines of `count` records with `at` bytes
-- were written, `readable` is whether each can be read as a message, and the log has ended or is broken.
pub record WritesRecords (profile : Profile) (left0 left1 written0 written1 : Option (List ℕ)) (count at : ℕ)
    (readable broken : Bool) : Type 0 where
  pub records : List ShownRecord
  pub rest : List ℕ
  pub reads : ReadsRecords profile left0 left1 records rest
  pub log_end : IsLogEnd (records_left records) rest left1 broken
  pub wrote : Appends written0 written1 (record_lines 1 records)
  pub count_is : count ≡ length records
  pub at_is : at ≡ length reads.read
  pub readable_is : readable ≡ are_readable records
