use Rattle.mls_start.proofs.FindingsOnce.{one_tree_finding}
use Rattle.mls_start.proofs.FirstStates.{one_finding, one_first}
use Rattle.mls_start.proofs.laws.findings_are_determined.Goals as goal

pub returns : goal.returns
returns c = record { tree = one_tree_finding; start = one_finding; state = one_first }
