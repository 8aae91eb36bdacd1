use Rattle.mls_index.proofs.Changed.{changed_members}
use Rattle.mls_index.proofs.laws.changed_members_suffice.Goals as goal

pub returns : goal.returns
returns c = changed_members
