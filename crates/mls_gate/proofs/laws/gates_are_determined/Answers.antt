use Rattle.mls_gate.proofs.GateOnce.{one_gate}
use Rattle.mls_gate.proofs.laws.gates_are_determined.Goals as goal

pub returns : goal.returns
returns c = one_gate
