use Rattle.mls_check.proofs.CheckedTrees.{LeavesAreValid-checked, FailsLeafRule-not_Members, FailsLeafRule-unique}
use Rattle.mls_check.proofs.laws.members_or_one_fault.Goals as goal

pub returns : goal.returns
returns c = record { some = LeavesAreValid-checked; apart = FailsLeafRule-not_Members; one = FailsLeafRule-unique }
