use Rattle.mls_examine.proofs.Deciding.{facts_are_unique, good_packages_stay}
use Rattle.mls_examine.proofs.laws.good_packages_stay.Goals as goal

pub returns : goal.returns
returns c = record { good = good_packages_stay; facts = facts_are_unique }
