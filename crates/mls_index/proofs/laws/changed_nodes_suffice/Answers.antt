use Rattle.mls_index.proofs.Changed.{changed_keys}
use Rattle.mls_index.proofs.laws.changed_nodes_suffice.Goals as goal

pub returns : goal.returns
returns c = changed_keys
