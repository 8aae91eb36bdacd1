use Rattle.std.proofs.Common.{◌≡◌, ◌+◌, List, length, false}
use Rattle.mls_wire.specs.Devices.{IsWorking}
use Rattle.mls_follow.specs.FollowerModel.{state_of}
use Rattle.mls_report.specs.Replay.{message_limit}
use Rattle.mls_report.specs.SignaturesReport.{LoggedMessage, all_read}
use Rattle.mls_report.proofs.SignatureLogs.{SignatureLogSoFar}
use Rattle.mls_report.proofs.signature_log.write_signature_log.Given as goal

-- what the messages so far want was told, and they were taken
abbrev pub invariant-messages : goal.invariant-messages
invariant-messages g l =
    let R = g.R.SignatureCheck.meaning l.receipts in
    ((ms : List LoggedMessage)
    × SignatureLogSoFar R (state_of l.fn.follower) (g.L.Source.device l.fn.log).bytes (g.L.Source.device l.log).bytes (g.K.Sink.device l.fn.out).bytes (g.K.Sink.device l.out).bytes ms (state_of l.follower)
    × (l.n ≡ 1 + length ms) × (l.reader.most + length ms ≡ message_limit) × (l.is_read ≡ all_read ms))
    × (l.reader.is_over ≡ false) × IsWorking (g.L.Source.device l.log) × IsWorking (g.K.Sink.device l.out)

abbrev pub decreases-messages : goal.decreases-messages
decreases-messages g l = l.reader.most
