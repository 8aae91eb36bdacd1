use Rattle.mls_gate.proofs.GateExists.{some_gate}
use Rattle.mls_gate.proofs.laws.gate_reports_exist.Goals as goal

pub returns : goal.returns
returns c = some_gate
