-- The exit statuses of reports. Used by contracts.
use Rattle.std.specs.Prelude.{ℕ, Result, Ok, Err}
use Rattle.mls_show.specs.declared.verdict.Verdict.{Verdict}
use Rattle.mls_show.specs.declared.verdict.Verdict.TheVariants.{Yes, No}
use Rattle.mls_wire.specs.declared.fault.RunFault.{RunFault}

-- `status result` is the exit status of a report: 0 for yes, 1 for no, 3 for a fault.
abbrev pub status : Result Verdict RunFault → ℕ
status (Ok Yes) = 0
status (Ok No) = 1
status (Err fault) = 3
