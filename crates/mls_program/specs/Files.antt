-- Files that are opened by name and read, or stored. Used by contracts.
use Rattle.std.specs.Prelude.{ℕ, List, [], Option, Some, None, Err, ◌≡◌, ◌≢◌, ◌↔◌, ◌⊎◌}
use Rattle.std.specs.Io.KnownBytes.{Appends}
use Rattle.mls_program.specs.ReportResult.{ReportResult}
use Rattle.mls_show.specs.ReadAll.{ReadsAll, ReadsSome}
use Rattle.mls_wire.specs.Devices.{Device, HasFailed, IsWorking}
use Rattle.mls_wire.specs.declared.fault.RunFault.{RunFault}
use Rattle.mls_wire.specs.declared.fault.RunFault.TheVariants.{Read, Write}

-- `Opener`: what contracts know of an opener of files. `gives name file`: the file with this name may be opened as
-- `file`. `lacks name`: opening it may fail. `stores name bytes`: the file with this name may be one that was stored with
-- exactly these bytes. `refuses name bytes`: storing them may fail. `device file` is the bytes left in a file, and
-- whether it has failed.
pub record Opener (File : Type 0) : Type 1 where
  pub gives : List ℕ → File → Type 0
  pub lacks : List ℕ → Type 0
  pub stores : List ℕ → List ℕ → Type 0
  pub refuses : List ℕ → List ℕ → Type 0
  pub device : File → Device

-- `unknown device` is an opener of which nothing is known, except what is left in an open file and whether it has
-- failed.
abbrev pub unknown : {File : Type 0} → (File → Device) → Opener File
unknown device =
    record {
      gives = λ name file. Unit {0};
      lacks = λ name. Unit {0};
      stores = λ name bytes. Unit {0};
      refuses = λ name bytes. Unit {0};
      device = device;
    }

-- `EndsUnread Lost written0 written1 outcome`: a file cannot be read, which is a fault of which `Lost` holds. Nothing is
-- written.
pub record EndsUnread (Lost : RunFault → Type 0) (written0 written1 : Option (List ℕ)) (outcome : ReportResult)
    : Type 0 where
  pub fault : RunFault
  pub lost : Lost fault
  pub outcome_is : outcome ≡ Err fault
  pub wrote : Appends written0 written1 []

module _ {File : Type 0} (F : Opener File) where
  -- `CannotOpen name ..`: a file with this name cannot be opened, which is a fault of reading. Nothing is written.
  pub record CannotOpen (name : List ℕ) (written0 written1 : Option (List ℕ))
      (outcome : ReportResult) : Type 0 where
    pub lacks : F.lacks name
    pub outcome_is : outcome ≡ Err Read
    pub wrote : Appends written0 written1 []

  -- `IsOpened name file`: what was opened for an optional name: nothing, or a file with the name.
  abbrev pub IsOpened : Option (List ℕ) → Option File → Type 0
  IsOpened None None = Unit {0}
  IsOpened None (Some opened) = ⊥
  IsOpened (Some name) None = ⊥
  IsOpened (Some name) (Some opened) = F.gives name opened

  -- `NamedFileIsMissing name`: there is a name, and the file may be one that cannot be opened.
  abbrev pub NamedFileIsMissing : Option (List ℕ) → Type 0
  NamedFileIsMissing None = ⊥
  NamedFileIsMissing (Some name) = F.lacks name

  -- `CannotOpenNamed name ..`: there is a name, and the file cannot be opened, which is a fault of reading. Nothing is
  -- written.
  pub record CannotOpenNamed (name : Option (List ℕ)) (written0 written1 : Option (List ℕ))
      (outcome : ReportResult) : Type 0 where
    pub lacks : NamedFileIsMissing name
    pub outcome_is : outcome ≡ Err Read
    pub wrote : Appends written0 written1 []

  -- `ReadsFile name bytes`: a file with this name was opened and read to its end. These are its bytes.
  pub record ReadsFile (name bytes : List ℕ) : Type 0 where
    pub opened : File
    pub ended : File
    pub given : F.gives name opened
    pub read : ReadsAll (F.device opened).bytes (F.device ended).bytes bytes
    pub not_failed : IsWorking (F.device ended)

  -- `FailsFile name fault`: a file with this name was opened, and could not be read to its end. It failed, or memory
  -- ran out.
  pub record FailsFile (name : List ℕ) (fault : RunFault) : Type 0 where
    pub opened : File
    pub ended : File
    pub given : F.gives name opened
    pub read : ReadsSome (F.device opened).bytes (F.device ended).bytes
    pub failed : (fault ≡ Read) ↔ HasFailed (F.device ended)
    pub not_write_fault : fault ≢ Write

  -- `CannotReadFile name fault`: a file with this name cannot be opened, or cannot be read to its end.
  abbrev pub CannotReadFile : List ℕ → RunFault → Type 0
  CannotReadFile name fault = (F.lacks name × (fault ≡ Read)) ⊎ FailsFile name fault

  -- `ReadsNamed name bytes`: the file with an optional name was read to its end, if there is a name.
  abbrev pub ReadsNamed : Option (List ℕ) → Option (List ℕ) → Type 0
  ReadsNamed None None = Unit {0}
  ReadsNamed (Some name) (Some bytes) = ReadsFile name bytes
  ReadsNamed _ _ = ⊥

  -- `CannotReadNamed name fault`: there is a name, and the file cannot be opened or read.
  abbrev pub CannotReadNamed : Option (List ℕ) → RunFault → Type 0
  CannotReadNamed None fault = ⊥
  CannotReadNamed (Some name) fault = CannotReadFile name fault
