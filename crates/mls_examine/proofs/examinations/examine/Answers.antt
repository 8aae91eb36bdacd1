use Rattle.std.proofs.Common.{inl}
use Rattle.std.proofs.lemmas.Result.{err_from_is_err_and}
use Rattle.mls_follow.specs.FollowerModel.{checker_of, state_of}
use Rattle.mls_examine.proofs.ExamineSteps.{examined_bytes, unfit_bytes}
use Rattle.mls_examine.proofs.examinations.examine.Goals as goal

pub returns-in_err-message-clause-unfit : goal.returns-in_err-message-clause-unfit
returns-in_err-message-clause-unfit g c =
    let p = err_from_is_err_and c.from_residual.result c.from_residual.ensures.1 in
    rw (p.1, p.2) (λ own. inl (rw c.profile.ensures at (c.in_err-message.ensures.unread own)))

pub returns-clause-examined : goal.returns-clause-examined
returns-clause-examined g c =
    examined_bytes (g.C.SignatureCheck.meaning (checker_of c.args.follower.now)) (state_of c.args.follower.now) c.in_ok-message.message c.args.bytes.now
    (rw c.profile.ensures at c.in_ok-message.ensures.read) c.examine_message-answer.result c.examine_message-answer.ensures.fit

pub returns-clause-unfit : goal.returns-clause-unfit
returns-clause-unfit g c =
    unfit_bytes (g.C.SignatureCheck.meaning (checker_of c.args.follower.now)) (state_of c.args.follower.now) c.in_ok-message.message c.args.bytes.now
    (rw c.profile.ensures at c.in_ok-message.ensures.read) c.examine_message-answer.result c.examine_message-answer.ensures.unfit
