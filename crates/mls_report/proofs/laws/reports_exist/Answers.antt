use Rattle.mls_report.proofs.ReplaysExist.{some_replay}
use Rattle.mls_report.proofs.SignaturesExist.{some_signatures}
use Rattle.mls_report.proofs.laws.reports_exist.Goals as goal

pub returns : goal.returns
returns c = record { replay = some_replay; signatures = some_signatures }
