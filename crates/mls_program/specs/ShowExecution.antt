-- How the command `show` is executed: which file is read, and what is reported. F is what opens files. That no other file
-- is opened is no clause. Used by contracts.
use Rattle.std.specs.Prelude.{ℕ, List, Option, IfOk, IfErr, ◌⊎◌}
use Rattle.mls_msgs.specs.declared.profile.Profile.{Profile}
use Rattle.mls_program.specs.Files.{Opener, CannotOpen}
use Rattle.mls_program.specs.ReportResult.{ReportResult}
use Rattle.mls_show.specs.Show.{Shows, ShowsPart}
use Rattle.mls_show.specs.declared.show.ShowKind.{ShowKind}
use Rattle.mls_wire.specs.Devices.{ReadFails}

module _ {File : Type 0} (F : Opener File) where
  -- `RunsShow profile k name written0 written1 outcome`: the report `show` of a file of this name.
  pub record RunsShow (profile : Profile) (k : ShowKind) (name : List ℕ) (written0 written1 : Option (List ℕ))
      (outcome : ReportResult) : Type 0 where
    pub opened : File
    pub ended : File
    pub given : F.gives name opened
    pub shown : IfOk outcome (Shows profile k (F.device opened).bytes (F.device ended).bytes written0 written1)
    pub part : IfErr outcome (ShowsPart profile k (F.device opened).bytes (F.device ended).bytes written0 written1)
    pub failed : ReadFails outcome (F.device ended)

  -- `ExecutesShow profile k name written0 written1 outcome`: the command `show` was executed, or the file cannot be opened.
  abbrev pub ExecutesShow : Profile → ShowKind → List ℕ → Option (List ℕ) → Option (List ℕ) → ReportResult → Type 0
  ExecutesShow profile k name written0 written1 outcome =
      CannotOpen F name written0 written1 outcome ⊎ RunsShow profile k name written0 written1 outcome
