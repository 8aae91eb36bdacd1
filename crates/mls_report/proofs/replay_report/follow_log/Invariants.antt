use Rattle.std.proofs.Common.{◌≡◌, ◌+◌, List, length, false}
use Rattle.mls_wire.specs.Devices.{IsWorking}
use Rattle.mls_follow.specs.FollowerModel.{checker_of, state_of}
use Rattle.mls_report.specs.Replay.{ProcessedMessage, accepted_count, message_limit}
use Rattle.mls_report.proofs.Replaying.{SoFar}
use Rattle.mls_report.proofs.replay_report.follow_log.Given as goal

-- the messages so far were taken and told
abbrev pub invariant-messages : goal.invariant-messages
invariant-messages g l =
    let G = g.C.SignatureCheck.meaning (checker_of l.fn.follower) in
    ((ts : List ProcessedMessage)
    × SoFar l.fn.progress.time G (state_of l.fn.follower) (g.L.Source.device l.fn.log).bytes (g.L.Source.device l.log).bytes (g.K.Sink.device l.fn.out).bytes (g.K.Sink.device l.out).bytes ts (state_of l.follower)
    × (l.number ≡ 1 + length ts) × (l.reader.most + length ts ≡ message_limit) × (l.progress.accepted ≡ accepted_count ts) × (l.progress.accepted + l.progress.refused ≡ length ts))
    × (g.C.SignatureCheck.meaning (checker_of l.follower) ≡ G)
    × (l.reader.is_over ≡ false) × IsWorking (g.L.Source.device l.log) × IsWorking (g.K.Sink.device l.out)
    × (l.progress.time ≡ l.fn.progress.time)

abbrev pub decreases-messages : goal.decreases-messages
decreases-messages g l = l.reader.most
