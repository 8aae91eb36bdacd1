use Rattle.mls_report.proofs.StrictEpochs.{reported_strict}
use Rattle.mls_report.proofs.laws.reported_epochs_are_strict.Goals as goal

pub returns : goal.returns
returns c = reported_strict
