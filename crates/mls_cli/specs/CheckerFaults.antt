-- Why there is no checker for a report. Internal: no public contract uses this.
use Rattle.mls_program.specs.Files.{Opener}
use Rattle.mls_cli.specs.ProgramCheckers.{CannotReadReceipts, RefusesReceipts}
use Rattle.mls_commands.specs.declared.order.CheckerChoice.{CheckerChoice}
use Rattle.mls_cli.specs.declared.program_checker.CheckerFault.{CheckerFault}
use Rattle.mls_cli.specs.declared.program_checker.CheckerFault.TheVariants.{Lost, Refused}

-- `IsCheckerFault F c fault`: the receipts file cannot be read, or is refused.
abbrev pub IsCheckerFault : {File : Type 0} → Opener File → CheckerChoice → CheckerFault → Type 0
IsCheckerFault F c (Lost fault) = CannotReadReceipts F c fault
IsCheckerFault F c (Refused fault) = RefusesReceipts F c fault
