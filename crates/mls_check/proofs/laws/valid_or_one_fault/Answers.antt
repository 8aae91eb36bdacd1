use Rattle.mls_check.proofs.Faulted.{valid_or_fault, fault-not_valid, fault-unique}
use Rattle.mls_check.proofs.laws.valid_or_one_fault.Goals as goal

pub returns : goal.returns
returns c = record { some = valid_or_fault; apart = fault-not_valid; one = fault-unique }
