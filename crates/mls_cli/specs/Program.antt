-- What the program does with its command line: it executes a command, or says what is wrong, and returns the exit
-- status. `out0` and `out1` are its output before and after, `notes0` and `notes1` standard error. Used by contracts.
use Rattle.std.specs.Prelude.{ℕ, List, ◌⊎◌}
use Rattle.clap.specs.Words.{Text}
use Rattle.mls_wire.specs.Devices.{Device}
use Rattle.mls_cli.specs.Execution.{ExecutesOrder, MeansWrite, stores_state}
use Rattle.mls_commands.specs.Orders.{IsOrderOf}
use Rattle.mls_commands.specs.declared.order.Order.{Order}
use Rattle.mls_program.specs.Endings.{Ends, RunsFault}
use Rattle.mls_program.specs.Files.{Opener}
use Rattle.mls_program.specs.ReportResult.{ReportResult}

-- How the program ends that opens files.
module _ {File : Type 0} (F : Opener File) (out0 out1 notes0 notes1 : Device) (exit : ℕ) where
  -- `EndsOrder o`: a command is executed.
  pub record EndsOrder (o : Order) : Type 0 where
    pub outcome : ReportResult
    pub executed : ExecutesOrder F o out0 out1 outcome
    pub write : MeansWrite (stores_state o) out1 outcome
    pub ends : Ends notes0 notes1 exit outcome

  -- `RunsOrder words`: the arguments give a command, which is executed.
  pub record RunsOrder (words : List Text) : Type 0 where
    pub order : Order
    pub is_order : IsOrderOf words order
    pub ends : EndsOrder order

  -- `RunsProgram words`: the program is run with these arguments, of which the first is its name.
  abbrev pub RunsProgram : List Text → Type 0
  RunsProgram words = RunsOrder words ⊎ RunsFault out0 out1 notes0 notes1 exit words
