use Rattle.mls_strict.proofs.FirstFaults.{fault_is_unique, no_fault_of_strict, strict_or_fault}
use Rattle.mls_strict.proofs.laws.strict_or_one_fault.Goals as goal

pub returns : goal.returns
returns c = record { some = strict_or_fault; apart = no_fault_of_strict; one = fault_is_unique }
