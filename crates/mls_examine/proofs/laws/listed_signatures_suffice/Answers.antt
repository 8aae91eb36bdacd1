use Rattle.mls_examine.proofs.Deciding.{covered_packages_are_good}
use Rattle.mls_examine.proofs.laws.listed_signatures_suffice.Goals as goal

pub returns : goal.returns
returns c = covered_packages_are_good
