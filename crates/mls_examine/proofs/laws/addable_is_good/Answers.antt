use Rattle.mls_examine.proofs.AddableGood.{addable_is_good}
use Rattle.mls_examine.proofs.laws.addable_is_good.Goals as goal

pub returns : goal.returns
returns c = addable_is_good
