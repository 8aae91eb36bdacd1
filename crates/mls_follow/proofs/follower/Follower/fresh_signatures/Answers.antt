use Rattle.mls_follow.specs.GroupModel.{group_state}
use Rattle.mls_follow.proofs.FreshSignatures.{fresh_unaccepted}
use Rattle.mls_follow.proofs.Headers.{none_fresh}
use Rattle.mls_follow.proofs.follower.Follower.fresh_signatures.Goals as goal

-- an unread message has no signatures
pub returns-in-Err-NotPublic-clause-needed : goal.returns-in-Err-NotPublic-clause-needed
returns-in-Err-NotPublic-clause-needed g c =
    none_fresh (group_state c.args.self.now.group) c.args.bytes.now c.new.result c.new.ensures
    (rw c.in-Err-NotPublic.field-0-is at c.in-Err-NotPublic.ensures.refused)

pub returns-in-Err-NotPublic-clause-filtered : goal.returns-in-Err-NotPublic-clause-filtered
returns-in-Err-NotPublic-clause-filtered g c =
    let old = c.args.self.now in
    fresh_unaccepted (g.C.SignatureCheck.meaning old.checker) (group_state old.group) old.accepted c.args.bytes.now c.new.result
    (none_fresh (group_state old.group) c.args.bytes.now c.new.result c.new.ensures (rw c.in-Err-NotPublic.field-0-is at c.in-Err-NotPublic.ensures.refused))

-- those that are left out are accepted
pub returns-in-Ok-list-clause-filtered : goal.returns-in-Ok-list-clause-filtered
returns-in-Ok-list-clause-filtered g c =
    let old = c.args.self.now in
    fresh_unaccepted (g.C.SignatureCheck.meaning old.checker) (group_state old.group) old.accepted c.args.bytes.now c.in-Ok-list.list
    (record { message = c.in-Ok.message; encoded = c.in-Ok.ensures.read; same = c.in-Ok-list.ensures.signatures })

pub fresh_signatures-list-requires : goal.fresh_signatures-list-requires
fresh_signatures-list-requires g c = c.args.self.now.accepted.packages
