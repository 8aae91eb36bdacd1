use Rattle.std.proofs.Common.{◌≡◌, ◌+◌, ◌*◌, ◌≤◌, List, length, false}
use Rattle.mls_wire.specs.Devices.{IsWorking}
use Rattle.mls_show.specs.LogReport.{ShownRecord, record_limit}
use Rattle.mls_show.proofs.LogLines.{SoFar}
use Rattle.mls_show.proofs.log_report.write_records.Given as goal

-- the lines of the records so far were written
abbrev pub invariant-records : goal.invariant-records
invariant-records g l =
    ((rs : List ShownRecord)
    × SoFar l.profile (g.S.Source.device l.fn.log).bytes (g.S.Source.device l.log).bytes (g.K.Sink.device l.fn.out).bytes (g.K.Sink.device l.out).bytes rs l.progress.at l.progress.is_readable
    × (l.progress.count ≡ length rs) × (l.reader.most + length rs ≡ record_limit))
    × (l.reader.is_over ≡ false) × IsWorking (g.S.Source.device l.log) × IsWorking (g.K.Sink.device l.out)
    × (l.progress.at ≤ l.progress.count * 268435460) × (l.progress.count + l.reader.most ≡ record_limit)

abbrev pub decreases-records : goal.decreases-records
decreases-records g l = l.reader.most
