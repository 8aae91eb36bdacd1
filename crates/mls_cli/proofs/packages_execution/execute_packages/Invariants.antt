use Rattle.std.proofs.Common.{◌≡◌, take}
use Rattle.mls_wire.specs.Devices.{IsWorking}
use Rattle.mls_report.specs.PackagesReport.{good_count, validation}
use Rattle.mls_cli.specs.ProgramCheckersInternal.{checker_verify}
use Rattle.mls_cli.proofs.Packages.{SoFar}
use Rattle.mls_cli.proofs.packages_execution.execute_packages.Given as goal

-- the lines of the files before were written, and those that are good were counted
abbrev pub invariant-loop-name : goal.invariant-loop-name
invariant-loop-name g l =
    (
    (h : SoFar (g.F.Files.opener l.files) (checker_verify l.checker) l.rules validation (take l.name-index l.names)
    (g.K.Sink.device l.fn.out) (g.K.Sink.device l.out) l.all)
    × (l.good ≡ good_count h.found)
    )
    × IsWorking (g.K.Sink.device l.out)
