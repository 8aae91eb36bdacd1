use Rattle.mls_msgs.proofs.MembersRead.{proposal_passes}
use Rattle.mls_msgs.proofs.profile.check_proposal.Goals as goal

pub returns : goal.returns
returns c =
    proposal_passes c.args.reader.now c.read.new.reader c.in_ok-kind.kind (rw c.fork-ahead.ensures at c.in_ok-kind.ensures)
    c.if-kind-eq4.false c.if-kind-eq5.false c.if-kind-eq6.false
