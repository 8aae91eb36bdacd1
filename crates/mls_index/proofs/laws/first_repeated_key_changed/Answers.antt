use Rattle.mls_index.proofs.Repeating.{changed_repeated}
use Rattle.mls_index.proofs.laws.first_repeated_key_changed.Goals as goal

pub returns : goal.returns
returns c = changed_repeated
