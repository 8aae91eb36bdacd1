use Rattle.mls_follow.proofs.StoredRuns.{resumption_valid, resumed_run_valid, resumed_answered}
use Rattle.mls_follow.proofs.laws.resumptions_are_valid.Goals as goal

pub returns : goal.returns
returns c = record { resumptions = resumption_valid; always = resumed_run_valid; answered = resumed_answered }
