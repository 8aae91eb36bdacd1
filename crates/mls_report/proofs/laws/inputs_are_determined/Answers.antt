use Rattle.mls_report.proofs.InputsOnce.{one_input, some_input}
use Rattle.mls_report.proofs.laws.inputs_are_determined.Goals as goal

pub returns : goal.returns
returns c = record { unique = one_input; exists = some_input }
