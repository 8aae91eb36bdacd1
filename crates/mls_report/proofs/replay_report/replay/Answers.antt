use Rattle.std.proofs.Common.{rules, Err}
use Rattle.mls_follow.specs.FollowerModel.{state_of}
use Rattle.mls_start.specs.Inputs.{inputs_of}
use Rattle.mls_show.proofs.Outcomes.{IfErr-is}
use Rattle.mls_report.proofs.Replaying.{decline-part, replays-to, replay-stops}
use Rattle.mls_report.proofs.replay_report.replay.Goals as goal

pub returns-in-Ok-write_log_report-clause-replayed : goal.returns-in-Ok-write_log_report-clause-replayed
returns-in-Ok-write_log_report-clause-replayed g c =
    replays-to c.args.judge.time (g.C.SignatureCheck.meaning c.args.judge.checker) (inputs_of c.args.start) _ c.in-Ok.ensures.checker (state_of c.in-Ok.follower) c.in-Ok.ensures.first _ _ _ _
    c.in-Ok-write_log_report.verdict _ c.in-Ok-write_log_report.ensures.printed

pub returns-in-Err-clause-effect_on_error : goal.returns-in-Err-clause-effect_on_error
returns-in-Err-clause-effect_on_error g c =
    replay-stops c.args.judge.time (g.C.SignatureCheck.meaning c.args.judge.checker) (inputs_of c.args.start) _ c.in-Ok.ensures.checker (state_of c.in-Ok.follower) c.in-Ok.ensures.first _ _ _ _
    c.in-Err.fault c.in-Err.ensures.effect_on_error

pub returns-in_err-verdict-in-Err-Found-clause-effect_on_error : goal.returns-in_err-verdict-in-Err-Found-clause-effect_on_error
returns-in_err-verdict-in-Err-Found-clause-effect_on_error g c =
    let e = c.in_err-verdict-in-Err-Found.field-0.0 in
    let part = c.in_err-verdict-in-Err-Found.ensures in
    let declines = rw c.in-Err-Found.field-0-is at c.in-Err-Found.ensures.refused in
    let wrote = rw c.in-Err-Found.field-0-is at part.effect_on_error in
    IfErr-is c.from_residual.result _ e (search rules)
    (decline-part c.args.judge.time (g.C.SignatureCheck.meaning c.args.judge.checker) (inputs_of c.args.start) _ declines _ _ _ (Err e)
    wrote part.memory part.fault)
