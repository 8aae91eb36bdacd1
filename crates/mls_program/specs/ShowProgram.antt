-- What the program that has the command `show` alone does with its command line: it shows a file, or says what is wrong,
-- and returns the exit status. `out0` and `out1` are its output before and after, `notes0` and `notes1` standard error.
-- Used by contracts.
use Rattle.std.specs.Prelude.{ℕ, List, [], codes, ◌≡◌, ◌⊎◌}
use Rattle.std.specs.Io.KnownBytes.{Appends}
use Rattle.clap.specs.Words.{Text}
use Rattle.mls_commands.specs.Orders.{IsOrderOf}
use Rattle.mls_commands.specs.declared.order.Order.{Order}
use Rattle.mls_commands.specs.declared.order.Order.TheVariants.{Show, Group, Check}
use Rattle.mls_msgs.specs.declared.profile.Profile.{Profile}
use Rattle.mls_program.specs.Endings.{Ends, WritesOrFails, RunsFault}
use Rattle.mls_program.specs.Files.{Opener}
use Rattle.mls_program.specs.ReportResult.{ReportResult}
use Rattle.mls_program.specs.ShowExecution.{ExecutesShow}
use Rattle.mls_show.specs.declared.show.ShowKind.{ShowKind}
use Rattle.mls_wire.specs.Devices.{Device, WriteFails}

-- `other_command` is what is noted of a command that the program does not have.
abbrev pub other_command : List ℕ
other_command = codes "usage: this program has the command show alone\n"

-- How the program ends that opens files.
module _ {File : Type 0} (F : Opener File) (out0 out1 notes0 notes1 : Device) (exit : ℕ) where
  -- `EndsShow profile k name`: a file of this name is shown. The outcome is a fault of writing if and only if the output
  -- has failed.
  pub record EndsShow (profile : Profile) (k : ShowKind) (name : List ℕ) : Type 0 where
    pub outcome : ReportResult
    pub executed : ExecutesShow F profile k name out0.bytes out1.bytes outcome
    pub write : WriteFails outcome out1
    pub ends : Ends notes0 notes1 exit outcome

  -- `EndsOtherOrder` is how the program ends with a command that it does not have: nothing is written, `other_command` is
  -- noted, and the exit status is that of a usage fault.
  abbrev pub EndsOtherOrder : Type 0
  EndsOtherOrder = Appends out0.bytes out1.bytes [] × WritesOrFails notes0 notes1 other_command × (exit ≡ 2)

  -- `EndsShowOrder o`: the command `show` is executed, or another one is refused.
  abbrev pub EndsShowOrder : Order → Type 0
  EndsShowOrder (Show profile k name) = EndsShow profile k name
  EndsShowOrder (Group report c) = EndsOtherOrder
  EndsShowOrder (Check k name) = EndsOtherOrder

  -- `RunsShowOrder words`: the arguments give a command, which is executed or refused.
  pub record RunsShowOrder (words : List Text) : Type 0 where
    pub order : Order
    pub is_order : IsOrderOf words order
    pub ends : EndsShowOrder order

  -- `RunsShowProgram words`: the program is run with these arguments, of which the first is its name.
  abbrev pub RunsShowProgram : List Text → Type 0
  RunsShowProgram words = RunsShowOrder words ⊎ RunsFault out0 out1 notes0 notes1 exit words
