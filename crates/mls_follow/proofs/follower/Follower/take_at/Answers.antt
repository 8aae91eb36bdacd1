use Rattle.std.proofs.lemmas.Result.{err_from_is_err_and}
use Rattle.mls_follow.specs.GroupModel.{group_state}
use Rattle.mls_follow.proofs.Headers.{header_refused}
use Rattle.mls_follow.proofs.Taking.{is_accepted, is_next, is_refused}
use Rattle.mls_follow.proofs.follower.Follower.take_at.Goals as goal

-- the message was not read
pub returns-in_err-message-clause-refused : goal.returns-in_err-message-clause-refused
returns-in_err-message-clause-refused g c =
    let p = err_from_is_err_and c.from_residual.result c.from_residual.ensures.1 in
    let group = c.args.self.now.group in
    rw (p.1, p.2) (header_refused c.args.now
    (g.C.SignatureCheck.meaning c.args.self.now.checker) (group_state group) group.required group.requires_these c.args.bytes.now
    c.in_err-message.field-0.0 c.in_err-message.ensures.refused)

-- it was read, and judged
pub returns-clause-accepted : goal.returns-clause-accepted
returns-clause-accepted g c =
    is_accepted c.args.now (g.C.SignatureCheck.meaning c.args.self.now.checker) (group_state c.args.self.now.group) c.args.bytes.now
    c.take_message-answer.result (group_state c.take_message-answer.new.self.group) c.take_message-answer.ensures.takes

pub returns-clause-next : goal.returns-clause-next
returns-clause-next g c =
    is_next c.args.now (g.C.SignatureCheck.meaning c.args.self.now.checker) (group_state c.args.self.now.group) c.args.bytes.now
    c.take_message-answer.result (group_state c.take_message-answer.new.self.group) c.take_message-answer.ensures.takes

pub returns-clause-refused : goal.returns-clause-refused
returns-clause-refused g c =
    is_refused c.args.now (g.C.SignatureCheck.meaning c.args.self.now.checker) (group_state c.args.self.now.group) c.args.bytes.now
    c.take_message-answer.result (group_state c.take_message-answer.new.self.group) c.take_message-answer.ensures.takes
