use Rattle.std.proofs.lemmas.Result.{err_from_is_err_and}
use Rattle.mls_follow.specs.FollowerModel.{checker_of, state_of}
use Rattle.mls_examine.proofs.InfoSteps.{answered_started, answered_vouched}
use Rattle.mls_examine.proofs.later_infos.check_later.Goals as goal

pub returns-in_err-new-clause-unfit : goal.returns-in_err-new-clause-unfit
returns-in_err-new-clause-unfit g c =
    let p = err_from_is_err_and c.from_residual.result c.from_residual.ensures.1 in
    rw (p.1, p.2) (λ own. c.in_err-new.ensures.unfit (g.C.SignatureCheck.meaning (checker_of c.args.follower.now)) own)

pub returns-clause-later : goal.returns-clause-later
returns-clause-later g c =
    answered_vouched (g.C.SignatureCheck.meaning (checker_of c.args.follower.now)) (state_of c.args.follower.now) c.args.info.now
    (state_of c.in_ok-new.new) c.in_ok-new.ensures.starts c.check_started-answer.result (rw c.tree.ensures at c.check_started-answer.ensures.vouches)

pub returns-clause-unfit : goal.returns-clause-unfit
returns-clause-unfit g c =
    answered_started (g.C.SignatureCheck.meaning (checker_of c.args.follower.now)) (state_of c.args.follower.now) c.args.info.now
    (state_of c.in_ok-new.new) c.in_ok-new.ensures.starts c.check_started-answer.result (rw c.tree.ensures at c.check_started-answer.ensures.unfit)
