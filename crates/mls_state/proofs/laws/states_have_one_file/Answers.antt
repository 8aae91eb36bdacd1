use Rattle.mls_state.proofs.Files.{state_is_unique, file_is_unique}
use Rattle.mls_state.proofs.laws.states_have_one_file.Goals as goal

pub returns-clause-state : goal.returns-clause-state
returns-clause-state c = state_is_unique

pub returns-clause-file : goal.returns-clause-file
returns-clause-file c = file_is_unique
