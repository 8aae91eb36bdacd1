use Rattle.mls_follow.specs.GroupModel.{group_state}
use Rattle.mls_follow.proofs.Headers.{none_listed}
use Rattle.mls_follow.proofs.follower.Follower.signatures_to_verify.Goals as goal

-- an unread message has no signatures
pub returns-in-Err-NotPublic-clause-needed : goal.returns-in-Err-NotPublic-clause-needed
returns-in-Err-NotPublic-clause-needed g c =
    none_listed (group_state c.args.self.now.group) c.args.bytes.now c.new.result c.new.ensures
    (rw c.in-Err-NotPublic.field-0-is at c.in-Err-NotPublic.ensures.refused)
