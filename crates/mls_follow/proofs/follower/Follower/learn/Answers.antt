use Rattle.mls_follow.specs.GroupModel.{group_state}
use Rattle.mls_follow.proofs.AcceptedPending.{pending_stays}
use Rattle.mls_follow.proofs.Learning.{learns, checked_stays}
use Rattle.mls_follow.proofs.follower.Follower.learn.Goals as goal

-- the state stays judged by what the checker means now
pub invariant_of-self : goal.invariant_of-self
invariant_of-self g c =
    let old = c.args.self.now in
    let G = g.C.SignatureCheck.meaning old.checker in
    let K = g.C.SignatureCheck.meaning c.learn_receipt.new.self in
    let more = learns G K c.args.digest c.learn_receipt.result c.learn_receipt.ensures.learnt c.learn_receipt.ensures.unchanged in
    record {
      checked = checked_stays G K (group_state old.group) more old.checked;
      accepted = pending_stays G K more (group_state old.group) old.accepted;
    }

pub returns-clause-extends : goal.returns-clause-extends
returns-clause-extends g c =
    learns (g.C.SignatureCheck.meaning c.args.self.now.checker) (g.C.SignatureCheck.meaning c.learn_receipt.new.self) c.args.digest c.learn_receipt.result
    c.learn_receipt.ensures.learnt c.learn_receipt.ensures.unchanged
