use Rattle.mls_signatures.proofs.Agreement.{duplicates_are_irrelevant}
use Rattle.mls_signatures.proofs.laws.duplicates_are_irrelevant.Goals as goal

pub returns : goal.returns
returns c = record { duplicates = duplicates_are_irrelevant }
