-- How a command is executed: which file is read for which input, what is reported, and what is stored. F is what opens
-- files, G the verification function of the checker, `i` what a group is followed from. In which order files are opened, and
-- that no other file is opened or stored, is no clause. `out0` and `out1` are the output before and after.
-- Used by contracts.
use Rattle.std.specs.Prelude.{ℕ, List, [], codes, Bool, true, false, Option, Some, None, is_some, option_map, Ok, Err, IfOk, IfErr, OnErr, ◌≡◌, ◌≢◌, ◌↔◌, ◌⊎◌}
use Rattle.std.specs.Io.KnownBytes.{Appends}
use Rattle.mls_wire.specs.Devices.{Device, IsWorking, HasFailed, ReadFails}
use Rattle.mls_check.specs.Signatures.{VerifyFn}
use Rattle.mls_commands.specs.declared.order.GroupFiles.{GroupFiles}
use Rattle.mls_commands.specs.declared.order.GroupReport.{GroupReport}
use Rattle.mls_commands.specs.declared.order.GroupReport.TheVariants.{ValidateTree, Validate, ValidatePackages, PackageSignatures, Replay, Signatures, Gate}
use Rattle.mls_commands.specs.declared.order.Order.{Order}
use Rattle.mls_commands.specs.declared.order.Order.TheVariants.{Show, Group, Check}
use Rattle.mls_commands.specs.declared.order.ReplayOptions.{ReplayOptions}
use Rattle.mls_msgs.specs.declared.rules.Rules.{Rules}
use Rattle.mls_follow.specs.State as follower
use Rattle.mls_follow.specs.StoredState.{EncodesState, HasNoFile}
use Rattle.mls_start.specs.Inputs.{Inputs}
use Rattle.mls_start.specs.StartFindings.{IsFindingOf}
use Rattle.mls_start.specs.TreeFinding.{IsTreeFinding}
use Rattle.mls_start.specs.declared.finding.Finding.{Finding}
use Rattle.mls_gate.specs.GateReport.{Gates, GatesPart}
use Rattle.mls_report.specs.Finding.{ReportsFinding, ReportsFindingPart}
use Rattle.mls_report.specs.PackagesReport.{signature_listing, validation}
use Rattle.mls_report.specs.Replay.{Replays, ReplaysPart}
use Rattle.mls_report.specs.SignaturesReport.{SignaturesPart, device_bytes, has_failed}
use Rattle.mls_report.specs.SignaturesReport as signatures
use Rattle.mls_vectors.specs.CheckReport.{Checks, ChecksPart}
use Rattle.mls_show.specs.declared.check_kind.CheckKind.{CheckKind}
use Rattle.mls_wire.specs.declared.fault.RunFault.{RunFault}
use Rattle.mls_wire.specs.declared.fault.RunFault.TheVariants.{Read, Write, Memory}
use Rattle.mls_show.specs.declared.verdict.Verdict.{Verdict}
use Rattle.mls_program.specs.Files.{Opener, IsOpened, CannotOpen, CannotOpenNamed, ReadsFile, CannotReadFile, EndsUnread}
use Rattle.mls_program.specs.ReportResult.{ReportResult}
use Rattle.mls_program.specs.ShowExecution.{ExecutesShow}
use Rattle.mls_cli.specs.GroupStarts.{RunsWithStartOrEnds}
use Rattle.mls_cli.specs.PackagesExecution.{ExecutesPackages}
use Rattle.mls_cli.specs.ProgramCheckers.{RunsWithCheckerOrEnds}

-- `stdin` is the name of standard input.
abbrev pub stdin : List ℕ
stdin = codes "-"

-- `ReportsFound IsFound ..`: what is found, of which `IsFound` holds, is reported in one line, or a part of it was written.
-- No file is read.
pub record ReportsFound (IsFound : Finding → Type 0) (out0 out1 : Device) (outcome : ReportResult) : Type 0 where
  pub printed : IfOk outcome (ReportsFinding IsFound out0.bytes out1.bytes)
  pub part : OnErr outcome (ReportsFindingPart IsFound out0.bytes out1.bytes)
  pub memory : outcome ≡ Err Memory → Appends out0.bytes out1.bytes []
  pub not_read_fault : IfErr outcome (λ e. e ≢ Read)

module _ {File : Type 0} (F : Opener File) where
  -- `CannotReadTree context tree fault`: the file of a GroupContext cannot be read, or it can and that of the tree cannot.
  abbrev pub CannotReadTree : List ℕ → List ℕ → RunFault → Type 0
  CannotReadTree context tree fault =
      CannotReadFile F context fault
      ⊎ ((bytes : List ℕ) × ReadsFile F context bytes × CannotReadFile F tree fault)

  -- `RunsValidateTree G rules context tree ..`: files with these names were read, and the report `validate-tree` is about
  -- them and these strict rules.
  pub record RunsValidateTree (G : VerifyFn) (rules : Rules) (context tree : List ℕ) (out0 out1 : Device)
      (outcome : ReportResult) : Type 0 where
    pub context_bytes : List ℕ
    pub tree_bytes : List ℕ
    pub context_read : ReadsFile F context context_bytes
    pub tree_read : ReadsFile F tree tree_bytes
    pub reports : ReportsFound (IsTreeFinding rules G context_bytes tree_bytes) out0 out1 outcome

  -- `ExecutesValidateTree G rules context tree ..`: the command `validate-tree` was executed with these strict rules, or a
  -- file cannot be read.
  abbrev pub ExecutesValidateTree : VerifyFn → Rules → List ℕ → List ℕ → Device → Device → ReportResult → Type 0
  ExecutesValidateTree G rules context tree out0 out1 outcome =
      EndsUnread (CannotReadTree context tree) out0.bytes out1.bytes outcome
      ⊎ RunsValidateTree G rules context tree out0 out1 outcome

  -- `ExecutesValidate G group ..`: the command `validate` was executed, or a file cannot be read.
  abbrev pub ExecutesValidate : VerifyFn → GroupFiles → Device → Device → ReportResult → Type 0
  ExecutesValidate G group out0 out1 outcome =
      RunsWithStartOrEnds F group (λ i. ReportsFound (IsFindingOf G i) out0 out1 outcome) out0 out1 outcome

  -- ---- a replay, and the state after it

  -- `IsUnstored name s`: the state `s` has no file, or its file cannot be stored under this name.
  abbrev pub IsUnstored : List ℕ → follower.State → Type 0
  IsUnstored name s =
      HasNoFile s ⊎ ((bytes : List ℕ) × EncodesState s bytes × F.refuses name bytes)

  -- `EndsStoring name s verdict outcome`: how a replay with this verdict ends that stores the state `s` under this name.
  -- Its file is stored, or this is a fault of writing, or memory has run out.
  abbrev pub EndsStoring : List ℕ → follower.State → Verdict → ReportResult → Type 0
  EndsStoring name s verdict (Ok found) =
      (found ≡ verdict) × ((bytes : List ℕ) × EncodesState s bytes × F.stores name bytes)
  EndsStoring name s verdict (Err Read) = ⊥
  EndsStoring name s verdict (Err Write) = IsUnstored name s
  EndsStoring name s verdict (Err Memory) = Unit {0}

  -- `EndsSaved save last verdict outcome`: how a replay with this verdict ends whose report was written whole. `last` is
  -- the state after the last whole message. It is stored if `--save` names a file and a follower has started.
  abbrev pub EndsSaved : Option (List ℕ) → Option follower.State → Verdict → ReportResult → Type 0
  EndsSaved None last verdict outcome = outcome ≡ Ok verdict
  EndsSaved (Some name) None verdict outcome = outcome ≡ Ok verdict
  EndsSaved (Some name) (Some s) verdict outcome = EndsStoring name s verdict outcome

  -- `EndsWhole save Whole out1 outcome`: the report was written whole, and then the state was stored if it has to be.
  pub record EndsWhole (save : Option (List ℕ)) (Whole : Verdict → Option follower.State → Type 0) (out1 : Device)
      (outcome : ReportResult) : Type 0 where
    pub verdict : Verdict
    pub last : Option follower.State
    pub whole : Whole verdict last
    pub saved : EndsSaved save last verdict outcome
    pub going : IsWorking out1

  -- `EndsPart Part out1 outcome`: the report was not written whole. Nothing is stored.
  pub record EndsPart (Part : RunFault → Type 0) (out1 : Device) (outcome : ReportResult) : Type 0 where
    pub fault : RunFault
    pub outcome_is : outcome ≡ Err fault
    pub part : Part fault
    pub write : (fault ≡ Write) ↔ HasFailed out1

  -- `EndsReplay save Whole Part out1 outcome`: the report was written whole, or not.
  abbrev pub EndsReplay : Option (List ℕ) → (Verdict → Option follower.State → Type 0) → (RunFault → Type 0) → Device
      → ReportResult → Type 0
  EndsReplay save Whole Part out1 outcome = EndsWhole save Whole out1 outcome ⊎ EndsPart Part out1 outcome

  -- `RunsReplay G i options ..`: the log was opened, and the report `replay` was made of it, at the time of the options.
  pub record RunsReplay (G : VerifyFn) (i : Inputs) (options : ReplayOptions) (out0 out1 : Device)
      (outcome : ReportResult) : Type 0 where
    pub opened : File
    pub ended : File
    pub given : F.gives options.log opened
    pub replayed : EndsReplay options.save
        (Replays options.time G i (F.device opened).bytes (F.device ended).bytes out0.bytes out1.bytes)
        (ReplaysPart options.time G i (F.device opened).bytes (F.device ended).bytes out0.bytes out1.bytes)
        out1 outcome
    pub failed : ReadFails outcome (F.device ended)

  -- `ExecutesReplay G options ..`: the command `replay` was executed, or a file cannot be read or opened.
  abbrev pub ExecutesReplay : VerifyFn → ReplayOptions → Device → Device → ReportResult → Type 0
  ExecutesReplay G options out0 out1 outcome =
      RunsWithStartOrEnds F options.group
      (λ i. CannotOpen F options.log out0.bytes out1.bytes outcome ⊎ RunsReplay G i options out0 out1 outcome)
      out0 out1 outcome

  -- ---- the other commands

  -- `RunsSignatures G i log ..`: the log was opened, if one is named, and the report `signatures` was made of it.
  pub record RunsSignatures (G : VerifyFn) (i : Inputs) (log : Option (List ℕ)) (out0 out1 : Device)
      (outcome : ReportResult) : Type 0 where
    pub opened : Option File
    pub ended : Option File
    pub given : IsOpened F log opened
    pub printed : IfOk outcome (signatures.Signatures G i
        (device_bytes F.device opened) (device_bytes F.device ended) out0.bytes out1.bytes)
    pub part : IfErr outcome (SignaturesPart G i
        (device_bytes F.device opened) (device_bytes F.device ended) out0.bytes out1.bytes)
    pub failed : (outcome ≡ Err Read) ↔ (has_failed (option_map (λ f. (F.device f).has_failed) ended) ≡ true)

  -- `ExecutesSignatures G group log ..`: the command `signatures` was executed, or a file cannot be read or opened. G is the
  -- verification function of the receipts.
  abbrev pub ExecutesSignatures : VerifyFn → GroupFiles → Option (List ℕ) → Device → Device → ReportResult → Type 0
  ExecutesSignatures G group log out0 out1 outcome =
      RunsWithStartOrEnds F group
      (λ i. CannotOpenNamed F log out0.bytes out1.bytes outcome ⊎ RunsSignatures G i log out0 out1 outcome)
      out0 out1 outcome

  -- `RunsGate time G i ..`: standard input, which has the records, was opened, and the report `gate` was made of it. `time`
  -- is the time at which lifetimes are judged at first.
  pub record RunsGate (time : Option ℕ) (G : VerifyFn) (i : Inputs) (out0 out1 : Device) (outcome : ReportResult) :
      Type 0 where
    pub opened : File
    pub ended : File
    pub given : F.gives stdin opened
    pub printed : IfOk outcome
        (Gates time G i (F.device opened).bytes (F.device ended).bytes out0.bytes out1.bytes)
    pub part : IfErr outcome
        (GatesPart time G i (F.device opened).bytes (F.device ended).bytes out0.bytes out1.bytes)
    pub failed : ReadFails outcome (F.device ended)

  -- `ExecutesGate time G group ..`: the command `gate` was executed, or a file cannot be read or opened. G is the
  -- verification function of what is known to be good at first.
  abbrev pub ExecutesGate : Option ℕ → VerifyFn → GroupFiles → Device → Device → ReportResult → Type 0
  ExecutesGate time G group out0 out1 outcome =
      RunsWithStartOrEnds F group
      (λ i. CannotOpen F stdin out0.bytes out1.bytes outcome ⊎ RunsGate time G i out0 out1 outcome)
      out0 out1 outcome

  -- `RunsCheck k name ..`: the report `check` of a file with this name.
  pub record RunsCheck (k : CheckKind) (name : List ℕ) (out0 out1 : Device) (outcome : ReportResult) : Type 0 where
    pub opened : File
    pub ended : File
    pub given : F.gives name opened
    pub checked : IfOk outcome (Checks k (F.device opened).bytes (F.device ended).bytes out0.bytes out1.bytes)
    pub part : OnErr outcome (ChecksPart k (F.device opened).bytes (F.device ended).bytes out0.bytes out1.bytes)
    pub memory : outcome ≡ Err Memory → Appends out0.bytes out1.bytes []
    pub failed : ReadFails outcome (F.device ended)

  -- `ExecutesCheck k name ..`: the command `check` was executed, or the file cannot be opened.
  abbrev pub ExecutesCheck : CheckKind → List ℕ → Device → Device → ReportResult → Type 0
  ExecutesCheck k name out0 out1 outcome =
      CannotOpen F name out0.bytes out1.bytes outcome ⊎ RunsCheck k name out0 out1 outcome

  -- `ExecutesReport G report ..`: a command was executed with the verification function G.
  abbrev pub ExecutesReport : VerifyFn → GroupReport → Device → Device → ReportResult → Type 0
  ExecutesReport G (ValidateTree rules context tree) out0 out1 outcome =
      ExecutesValidateTree G rules context tree out0 out1 outcome
  ExecutesReport G (Validate group) out0 out1 outcome = ExecutesValidate G group out0 out1 outcome
  ExecutesReport G (ValidatePackages rules files) out0 out1 outcome =
      ExecutesPackages F G rules validation files.items out0 out1 outcome
  ExecutesReport G (PackageSignatures rules files) out0 out1 outcome =
      ExecutesPackages F G rules signature_listing files.items out0 out1 outcome
  ExecutesReport G (Replay options) out0 out1 outcome = ExecutesReplay G options out0 out1 outcome
  ExecutesReport G (Signatures group log) out0 out1 outcome = ExecutesSignatures G group log out0 out1 outcome
  ExecutesReport G (Gate group time) out0 out1 outcome = ExecutesGate time G group out0 out1 outcome

  -- `ExecutesOrder order ..`: a command was executed.
  abbrev pub ExecutesOrder : Order → Device → Device → ReportResult → Type 0
  ExecutesOrder (Show profile k name) out0 out1 outcome =
      ExecutesShow F profile k name out0.bytes out1.bytes outcome
  ExecutesOrder (Group report c) out0 out1 outcome =
      RunsWithCheckerOrEnds F c (λ G. ExecutesReport G report out0 out1 outcome) out0 out1 outcome
  ExecutesOrder (Check k name) out0 out1 outcome = ExecutesCheck k name out0 out1 outcome

-- `report_stores report`: the report stores a state after it.
abbrev pub report_stores : GroupReport → Bool
report_stores (Replay options) = is_some options.save
report_stores _ = false

-- `stores_state order`: the command stores a state after its report.
abbrev pub stores_state : Order → Bool
stores_state (Group report c) = report_stores report
stores_state _ = false

-- `MeansWrite stores out1 outcome`: what a fault of writing means. If the output has failed, the outcome is this fault.
-- If the command stores no state, the outcome is this fault only then; else `EndsStoring` says when it is, too.
pub record MeansWrite (stores : Bool) (out1 : Device) (outcome : ReportResult) : Type 0 where
  pub failed : HasFailed out1 → outcome ≡ Err Write
  pub only : stores ≡ false → outcome ≡ Err Write → HasFailed out1
