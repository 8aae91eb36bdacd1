use Rattle.mls_index.proofs.Changed.{changed_first}
use Rattle.mls_index.proofs.laws.first_failing_leaf_changed.Goals as goal

pub returns : goal.returns
returns c = changed_first
