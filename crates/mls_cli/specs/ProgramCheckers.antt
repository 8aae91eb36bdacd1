-- The checker of a report, and how a report ends without one. `out0` and `out1` are the output before and after.
-- Used by contracts.
use Rattle.std.specs.Prelude.{ℕ, List, [], true, Err, IfOk, OnErr, ◌≡◌, ◌≢◌, ◌⊎◌}
use Rattle.std.specs.Io.KnownBytes.{Appends}
use Rattle.mls_wire.specs.Devices.{AppendsPrefix, Device, WriteFails}
use Rattle.mls_check.specs.Receipts.{listed, IsReceipts, IsReceiptsFault}
use Rattle.mls_check.specs.Signatures.{VerifyFn}
use Rattle.mls_check.specs.declared.receipts.ReceiptsFault.{ReceiptsFault}
use Rattle.mls_program.specs.Files.{Opener, ReadsFile, CannotReadFile, EndsUnread}
use Rattle.mls_program.specs.ReportResult.{ReportResult}
use Rattle.mls_commands.specs.declared.order.CheckerChoice.{CheckerChoice}
use Rattle.mls_commands.specs.declared.order.CheckerChoice.TheVariants as checker
use Rattle.mls_report.specs.UnreadableReceipts.{ReportsReceipts, receipts_line}
use Rattle.mls_wire.specs.declared.fault.RunFault.{RunFault}
use Rattle.mls_wire.specs.declared.fault.RunFault.TheVariants.{Read, Memory}

module _ {File : Type 0} (F : Opener File) where
  -- `HasReceipts name G`: the receipts file was read, and `G` accepts the signatures that it lists.
  pub record HasReceipts (name : List ℕ) (G : VerifyFn) : Type 0 where
    pub bytes : List ℕ
    pub digests : List (List ℕ)
    pub read : ReadsFile F name bytes
    pub are_receipts : IsReceipts bytes digests
    pub means : G ≡ listed digests

  -- `IsUnlisted name fault`: the file was read, and is no receipts file.
  pub record IsUnlisted (name : List ℕ) (fault : ReceiptsFault) : Type 0 where
    pub bytes : List ℕ
    pub read : ReadsFile F name bytes
    pub is_fault : IsReceiptsFault fault bytes

  -- `IsMeaning c G`: `G` is the verification function of a choice on the command line.
  abbrev pub IsMeaning : CheckerChoice → VerifyFn → Type 0
  IsMeaning checker.Trust G = G ≡ (λ suite key content signature. true)
  IsMeaning (checker.Receipts name) G = HasReceipts name G
  IsMeaning checker.NoReceipts G = G ≡ listed []

  -- `CannotReadReceipts c fault`: the receipts file cannot be read.
  abbrev pub CannotReadReceipts : CheckerChoice → RunFault → Type 0
  CannotReadReceipts checker.Trust fault = ⊥
  CannotReadReceipts (checker.Receipts name) fault = CannotReadFile F name fault
  CannotReadReceipts checker.NoReceipts fault = ⊥

  -- `RefusesReceipts c fault`: the receipts file is read, and refused.
  abbrev pub RefusesReceipts : CheckerChoice → ReceiptsFault → Type 0
  RefusesReceipts checker.Trust fault = ⊥
  RefusesReceipts (checker.Receipts name) fault = IsUnlisted name fault
  RefusesReceipts checker.NoReceipts fault = ⊥

  -- `EndsRefused c ..`: the receipts file is bad, which is all that is reported.
  pub record EndsRefused (c : CheckerChoice) (out0 out1 : Device) (outcome : ReportResult) : Type 0 where
    pub fault : ReceiptsFault
    pub refused : RefusesReceipts c fault
    pub printed : IfOk outcome (ReportsReceipts fault out0.bytes out1.bytes)
    pub part : OnErr outcome (AppendsPrefix out0.bytes out1.bytes (receipts_line fault))
    pub memory : outcome ≡ Err Memory → Appends out0.bytes out1.bytes []
    pub not_read_fault : outcome ≢ Err Read
    pub write : WriteFails outcome out1

  -- `RunsWithChecker c P`: P holds of the verification function of a choice.
  pub record RunsWithChecker (c : CheckerChoice) (P : VerifyFn → Type 0) : Type 0 where
    pub meaning : VerifyFn
    pub is_meaning : IsMeaning c meaning
    pub report : P meaning

  -- `RunsWithCheckerOrEnds c P ..`: the receipts are read, if there are any, and the report begins if they are good.
  -- That they are read first, and that no other file is opened if they are bad, is no clause.
  abbrev pub RunsWithCheckerOrEnds : CheckerChoice → (VerifyFn → Type 0) → Device → Device → ReportResult → Type 0
  RunsWithCheckerOrEnds c P out0 out1 outcome =
      EndsUnread (CannotReadReceipts c) out0.bytes out1.bytes outcome
      ⊎ (EndsRefused c out0 out1 outcome ⊎ RunsWithChecker c P)
