use Rattle.mls_check.proofs.GroupTreeAnswers.{group_tree_or_fault, fault-no_members, group_tree_fault-unique}
use Rattle.mls_check.proofs.laws.group_tree_or_one_fault.Goals as goal

pub returns : goal.returns
returns c = record { some = group_tree_or_fault; apart = fault-no_members; one = group_tree_fault-unique }
