use Rattle.mls_examine.proofs.Lone.{lone_leaves}
use Rattle.mls_examine.proofs.laws.lone_leaves_are_valid.Goals as goal

pub returns : goal.returns
returns c = lone_leaves
