use Rattle.std.proofs.Common.{length}
use Rattle.mls_msgs.proofs.MembersRead.{left_pass}
use Rattle.mls_msgs.proofs.profile.check_list.Given as goal

-- if the entries that are left pass, then all entries do
abbrev pub invariant-loop-body : goal.invariant-loop-body
invariant-loop-body l = left_pass l.body → left_pass l.initial.body

abbrev pub decreases-loop-body : goal.decreases-loop-body
decreases-loop-body l = length l.body.left
