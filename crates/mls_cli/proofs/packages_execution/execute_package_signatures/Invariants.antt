use Rattle.std.proofs.Common.{◌≡◌, take}
use Rattle.mls_wire.specs.Devices.{IsWorking}
use Rattle.mls_report.specs.PackagesReport.{signature_listing}
use Rattle.mls_cli.specs.ProgramCheckersInternal.{checker_verify}
use Rattle.mls_cli.proofs.Packages.{SoFar, listing_verdict}
use Rattle.mls_cli.proofs.packages_execution.execute_package_signatures.Given as goal

-- the lines of the files before were written, and the verdict is that of these files
abbrev pub invariant-loop-name : goal.invariant-loop-name
invariant-loop-name g l =
    (
    (h : SoFar (g.F.Files.opener l.files) (checker_verify l.receipts) l.rules signature_listing (take l.name-index l.names)
    (g.K.Sink.device l.fn.out) (g.K.Sink.device l.out) l.all)
    × (l.verdict ≡ listing_verdict h.found)
    )
    × IsWorking (g.K.Sink.device l.out)
