use Rattle.mls_follow.specs.GroupModel.{group_state}
use Rattle.mls_follow.proofs.AcceptedPending.{resumed_pending}
use Rattle.mls_follow.proofs.InvariantLemmas.{resumed_checked}
use Rattle.mls_follow.proofs.follower.Follower.resume.Goals as goal

-- the tree of the file was validated, and its pending proposals were accepted
pub invariant_of-result : goal.invariant_of-result
invariant_of-result g c =
    record {
      checked = resumed_checked (g.C.SignatureCheck.meaning c.args.checker) c.args.bytes.items (group_state c.in-Ok.group) c.in-Ok.ensures.resumed;
      accepted = resumed_pending (g.C.SignatureCheck.meaning c.args.checker) c.args.bytes.items (group_state c.in-Ok.group) c.in-Ok.ensures.resumed;
    }
