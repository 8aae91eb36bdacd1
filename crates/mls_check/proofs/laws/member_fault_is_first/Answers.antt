use Rattle.mls_check.proofs.FirstFault.{fault-first, members-faultless}
use Rattle.mls_check.proofs.laws.member_fault_is_first.Goals as goal

pub returns : goal.returns
returns c = record { fault = fault-first; members = members-faultless }
