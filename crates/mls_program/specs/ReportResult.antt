-- How a report ends. Used by contracts.
use Rattle.std.specs.Prelude.{Result}
use Rattle.mls_show.specs.declared.verdict.Verdict.{Verdict}
use Rattle.mls_wire.specs.declared.fault.RunFault.{RunFault}

-- The verdict of a report that was written whole, or why it was not.
abbrev pub ReportResult : Type 0
ReportResult = Result Verdict RunFault
