use Rattle.mls_start.proofs.FindingsExist.{some_tree_finding}
use Rattle.mls_start.proofs.FirstStates.{some_finding, first_or_declined}
use Rattle.mls_start.proofs.laws.findings_exist.Goals as goal

pub returns : goal.returns
returns c = record { tree = some_tree_finding; start = some_finding; first = first_or_declined }
