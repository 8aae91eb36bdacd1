use Rattle.std.proofs.Common.{rules, arith}
use Rattle.mls_follow.specs.FollowerModel.{checker_of, state_of}
use Rattle.mls_report.proofs.Answered.{answered}
use Rattle.mls_report.proofs.answering.answer_to.Goals as goal

pub returns-clause-answered : goal.returns-clause-answered
returns-clause-answered g c =
    let t = c.take_at-answer.ensures in
    let old = c.args.follower.now in
    answered c.args.time (g.C.SignatureCheck.meaning (checker_of old)) (state_of old) c.args.message.now c.take_at-answer.result
    (state_of c.take_at-answer.new.self) t.accepted t.next t.refused t.unchanged_on_error (first_of (search rules, grind arith))
