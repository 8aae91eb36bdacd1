use Rattle.mls_examine.proofs.PackagesFound.{finding_exists, finding_is_unique}
use Rattle.mls_examine.proofs.laws.one_package_finding.Goals as goal

pub returns : goal.returns
returns c = record { some = finding_exists; one = finding_is_unique }
