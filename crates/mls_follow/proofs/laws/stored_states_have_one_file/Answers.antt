use Rattle.mls_follow.proofs.StoredFiles.{some_file}
use Rattle.mls_follow.proofs.StoredStates.{one_file, file_of_one}
use Rattle.mls_follow.proofs.laws.stored_states_have_one_file.Goals as goal

pub returns : goal.returns
returns c = record { some = some_file; file = one_file; state = file_of_one }
