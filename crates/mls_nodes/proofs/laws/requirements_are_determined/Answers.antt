use Rattle.mls_nodes.proofs.RequiredOnce.{required_by-determines, required_by-determined}
use Rattle.mls_nodes.proofs.laws.requirements_are_determined.Goals as goal

pub returns : goal.returns
returns c = λ extensions required. (required_by-determines extensions required, required_by-determined extensions required)
