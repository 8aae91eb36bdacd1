use Rattle.mls_follow.specs.GroupModel.{group_state}
use Rattle.mls_follow.proofs.Timed.{accepted_without, refused_without}
use Rattle.mls_follow.proofs.follower.Follower.take.Goals as goal

-- no time is passed
pub returns-clause-accepted : goal.returns-clause-accepted
returns-clause-accepted g c =
    accepted_without (g.C.SignatureCheck.meaning c.args.self.now.checker) (group_state c.args.self.now.group) c.args.bytes.now c.take_at.result c.take_at.ensures.accepted

pub returns-clause-refused : goal.returns-clause-refused
returns-clause-refused g c =
    refused_without (g.C.SignatureCheck.meaning c.args.self.now.checker) (group_state c.args.self.now.group) c.args.bytes.now c.take_at.result c.take_at.ensures.refused
