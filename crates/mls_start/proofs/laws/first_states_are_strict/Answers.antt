use Rattle.mls_start.proofs.FirstStates.{first_strict}
use Rattle.mls_start.proofs.laws.first_states_are_strict.Goals as goal

pub returns : goal.returns
returns c = first_strict
