use Rattle.mls_report.proofs.CoveredReports.{covered_replay}
use Rattle.mls_report.proofs.laws.covered_reports_replay.Goals as goal

pub returns : goal.returns
returns c = covered_replay
