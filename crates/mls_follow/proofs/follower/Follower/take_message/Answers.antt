use Rattle.mls_follow.specs.GroupModel.{group_state}
use Rattle.mls_follow.proofs.AcceptedPending.{timed_pending}
use Rattle.mls_follow.proofs.Timed.{timed_checked}
use Rattle.mls_follow.proofs.follower.Follower.take_message.Goals as goal

-- what was taken was judged
pub invariant_of-self : goal.invariant_of-self
invariant_of-self g c =
    let old = c.args.self.now in
    record {
      checked = timed_checked c.args.received.now.time (g.C.SignatureCheck.meaning old.checker) (group_state old.group) c.args.received.now.bytes.now c.take.result (group_state c.take.new.self) c.take.ensures old.checked;
      accepted = timed_pending (g.C.SignatureCheck.meaning old.checker) c.args.received.now.time (group_state old.group) c.args.received.now.bytes.now c.take.result (group_state c.take.new.self) c.take.ensures old.accepted;
    }
