use Rattle.mls_examine.proofs.Deciding.{fault_is_unique, no_fault_of_good, package_or_fault}
use Rattle.mls_examine.proofs.laws.package_or_one_fault.Goals as goal

pub returns : goal.returns
returns c = record { some = package_or_fault; apart = no_fault_of_good; one = fault_is_unique }
