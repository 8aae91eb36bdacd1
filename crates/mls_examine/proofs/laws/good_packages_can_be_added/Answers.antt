use Rattle.mls_examine.proofs.ValidAdds.{good_packages_can_be_added}
use Rattle.mls_examine.proofs.laws.good_packages_can_be_added.Goals as goal

pub returns : goal.returns
returns c = good_packages_can_be_added
