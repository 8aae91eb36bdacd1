use Rattle.mls_report.proofs.ValidEpochs.{reported_valid}
use Rattle.mls_report.proofs.laws.reported_epochs_are_valid.Goals as goal

pub returns : goal.returns
returns c = reported_valid
