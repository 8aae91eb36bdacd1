use Rattle.mls_signatures.proofs.DistinctStarts.{start_signatures_are_distinct}
use Rattle.mls_signatures.proofs.laws.start_signatures_are_distinct.Goals as goal

pub returns : goal.returns
returns c = record { distinct = start_signatures_are_distinct }
