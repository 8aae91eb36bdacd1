use Rattle.mls_apply.proofs.OutcomeItems.{outcomes_ignore_others}
use Rattle.mls_apply.proofs.laws.outcomes_ignore_others.Goals as goal

pub returns : goal.returns
returns c = outcomes_ignore_others
