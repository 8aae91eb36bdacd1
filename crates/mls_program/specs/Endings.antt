-- How a program ends: what it writes and notes of a report's result, or of a command line without a command, and its exit
-- status. `out0` and `out1` are its output before and after, `notes0` and `notes1` standard error. Used by contracts.
use Rattle.std.specs.Prelude.{ℕ, List, [], codes, string_bytes, Ok, Err, ◌≡◌, ◌⊎◌}
use Rattle.std.specs.Io.KnownBytes.{Appends}
use Rattle.clap.specs.Words.{Text}
use Rattle.mls_wire.specs.Devices.{AppendsPrefix, Device, HasFailed, IsWorking}
use Rattle.mls_commands.specs.FaultStatus.{fault_status}
use Rattle.mls_commands.specs.Orders.{IsOrderOf, IsHelp, IsUsage, AsksForHelp, AsksForHelpAlone, RefusesArguments}
use Rattle.mls_commands.specs.declared.order.OrderFault.{OrderFault}
use Rattle.mls_commands.specs.declared.order.OrderFault.TheVariants as order
use Rattle.mls_program.specs.ReportResult.{ReportResult}
use Rattle.mls_show.specs.Status.{status}
use Rattle.mls_show.specs.declared.verdict.Verdict.TheVariants.{Yes}
use Rattle.mls_wire.specs.declared.fault.RunFault.TheVariants.{Read, Write, Memory}

-- `fault_note outcome` is what is noted of how a report ended: a fault, by its name.
abbrev pub fault_note : ReportResult → List ℕ
fault_note (Ok verdict) = []
fault_note (Err Read) = codes "fault: read\n"
fault_note (Err Write) = codes "fault: write\n"
fault_note (Err Memory) = codes "fault: memory\n"

-- `WritesOrFails old new text`: a text was written whole to a sink, or a prefix of it and the sink has failed.
abbrev pub WritesOrFails : Device → Device → List ℕ → Type 0
WritesOrFails old new text =
    (Appends old.bytes new.bytes text × IsWorking new) ⊎ (AppendsPrefix old.bytes new.bytes text × HasFailed new)

-- `Ends notes0 notes1 exit outcome`: a fault is noted, and the exit status is that of the result.
abbrev pub Ends : Device → Device → ℕ → ReportResult → Type 0
Ends notes0 notes1 exit outcome = WritesOrFails notes0 notes1 (fault_note outcome) × (exit ≡ status outcome)

-- How a program ends without a command: its output and standard error, before and after, and the exit status.
module _ (out0 out1 notes0 notes1 : Device) (exit : ℕ) where
  -- `EndsHelp text`: help is written on the output. If that fails, it is a fault of writing.
  abbrev pub EndsHelp : List ℕ → Type 0
  EndsHelp text =
      (Appends out0.bytes out1.bytes text × IsWorking out1 × Ends notes0 notes1 exit (Ok Yes))
      ⊎ (AppendsPrefix out0.bytes out1.bytes text × HasFailed out1 × Ends notes0 notes1 exit (Err Write))

  -- `EndsFault fault`: help is written, or what is wrong is noted.
  abbrev pub EndsFault : OrderFault → Type 0
  EndsFault (order.Help text) = EndsHelp (string_bytes text)
  EndsFault (order.Usage text) =
      Appends out0.bytes out1.bytes [] × WritesOrFails notes0 notes1 (string_bytes text)
      × (exit ≡ fault_status (order.Usage text))
  EndsFault order.Memory = Appends out0.bytes out1.bytes [] × Ends notes0 notes1 exit (Err Memory)

  -- `RunsFault words`: the arguments give no command.
  pub record RunsFault (words : List Text) : Type 0 where
    pub fault : OrderFault
    pub refused : RefusesArguments (IsOrderOf words) fault
    pub help : IsHelp fault → AsksForHelp words
    pub usage : IsUsage fault → ¬ AsksForHelpAlone words
    pub ends : EndsFault fault
