use Rattle.std.proofs.Common.{◌≡◌, take}
use Rattle.std.specs.Io.KnownBytes.{Appends}
use Rattle.mls_wire.specs.Devices.{IsWorking}
use Rattle.mls_report.specs.PackagesReport.{listed_lines}
use Rattle.mls_report.proofs.packages_report.write_signatures.Given as goal

-- the lines of the signatures before were written
abbrev pub invariant-loop-signature : goal.invariant-loop-signature
invariant-loop-signature g l =
    Appends (g.K.Sink.device l.fn.out).bytes (g.K.Sink.device l.out).bytes (listed_lines (take l.signature-index l.signatures))
    × IsWorking (g.K.Sink.device l.out)
