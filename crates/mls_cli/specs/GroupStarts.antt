-- What a group is followed from, as it is read from the files that a command names. F is what opens files.
-- `out0` and `out1` are the output before and after. Used by contracts.
use Rattle.std.specs.Prelude.{ℕ, List, ◌≡◌, ◌⊎◌}
use Rattle.mls_wire.specs.Devices.{Device}
use Rattle.mls_commands.specs.declared.order.GroupFiles.{GroupFiles}
use Rattle.mls_commands.specs.declared.order.GroupFiles.TheVariants.{Info, State}
use Rattle.mls_program.specs.Files.{Opener, ReadsFile, CannotReadFile, ReadsNamed, CannotReadNamed, EndsUnread}
use Rattle.mls_program.specs.ReportResult.{ReportResult}
use Rattle.mls_wire.specs.declared.fault.RunFault.{RunFault}
use Rattle.mls_start.specs.Inputs.{Inputs, OfInfo, OfState}

module _ {File : Type 0} (F : Opener File) where
  -- `ReadsStart group i`: the files of a group were read, and `i` is their bytes, in the profile of the command, and with
  -- its strict rules.
  abbrev pub ReadsStart : GroupFiles → Inputs → Type 0
  ReadsStart (Info rules profile info tree) (OfInfo asked read_in info_bytes tree_bytes) =
      (asked ≡ rules) × (read_in ≡ profile) × ReadsFile F info info_bytes × ReadsNamed F tree tree_bytes
  ReadsStart (State rules state) (OfState asked bytes) = (asked ≡ rules) × ReadsFile F state bytes
  ReadsStart _ _ = ⊥

  -- `CannotReadStart group fault`: the file of the GroupInfo or of the state cannot be read, or that of the GroupInfo can and
  -- that of the tree cannot.
  abbrev pub CannotReadStart : GroupFiles → RunFault → Type 0
  CannotReadStart (Info rules profile info tree) fault =
      CannotReadFile F info fault ⊎ ((bytes : List ℕ) × ReadsFile F info bytes × CannotReadNamed F tree fault)
  CannotReadStart (State rules state) fault = CannotReadFile F state fault

  -- `RunsWithStart group P`: P holds of what was read of the files of a group.
  pub record RunsWithStart (group : GroupFiles) (P : Inputs → Type 0) : Type 0 where
    pub inputs : Inputs
    pub is_read : ReadsStart group inputs
    pub report : P inputs

  -- `RunsWithStartOrEnds group P ..`: the files of a group are read, and the report begins if they can be.
  abbrev pub RunsWithStartOrEnds : GroupFiles → (Inputs → Type 0) → Device → Device → ReportResult → Type 0
  RunsWithStartOrEnds group P out0 out1 outcome =
      EndsUnread (CannotReadStart group) out0.bytes out1.bytes outcome ⊎ RunsWithStart group P
