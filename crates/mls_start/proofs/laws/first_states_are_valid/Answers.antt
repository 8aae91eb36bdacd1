use Rattle.mls_start.proofs.FirstStates.{first_valid}
use Rattle.mls_start.proofs.laws.first_states_are_valid.Goals as goal

pub returns : goal.returns
returns c = first_valid
