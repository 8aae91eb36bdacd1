use Rattle.mls_gate.proofs.Rising.{gates_rise, gates_valid, gates_trusted, gates_resume}
use Rattle.mls_gate.proofs.laws.gates_are_rising_runs.Goals as goal

pub returns : goal.returns
returns c = record { rise = gates_rise; valid = gates_valid; trusted = gates_trusted; resumes = gates_resume }
