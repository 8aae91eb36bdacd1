use Rattle.mls_report.proofs.TurnsOnce.{one_log}
use Rattle.mls_report.proofs.ReplaysOnce.{one_replay}
use Rattle.mls_report.proofs.laws.replays_are_determined.Goals as goal

pub returns : goal.returns
returns c = record { log = one_log; report = one_replay }
