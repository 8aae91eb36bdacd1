use Rattle.std.proofs.lemmas.Result.{IfOk-weaker, IfErr-weaker}
use Rattle.mls_follow.specs.FollowerModel.{state_of}
use Rattle.mls_start.specs.SignaturesLeft.{signatures_left}
use Rattle.mls_report.proofs.SignatureStarts.{stops-in-start, prints-log, stops-in-log}
use Rattle.mls_report.proofs.signatures_report.report_started.Goals as goal

pub returns-in-Err-clause-effect_on_error : goal.returns-in-Err-clause-effect_on_error
returns-in-Err-clause-effect_on_error g c =
    let s = state_of c.args.start.follower in
    λ i starts.
    stops-in-start (g.R.SignatureCheck.meaning c.args.receipts.now) i s (signatures_left s c.args.start.signatures) starts _ _ _
    c.in-Err.fault c.in-Err.ensures.effect_on_error

pub returns-clause-printed : goal.returns-clause-printed
returns-clause-printed g c =
    let s = state_of c.args.start.follower in
    λ i starts.
    IfOk-weaker c.report_log-verdict.result _ _
    (prints-log (g.R.SignatureCheck.meaning c.args.receipts.now) i s (signatures_left s c.args.start.signatures) starts _ _ _ _ _ c.in_default.ensures.all)
    c.report_log-verdict.ensures.printed

pub returns-clause-effect_on_error : goal.returns-clause-effect_on_error
returns-clause-effect_on_error g c =
    let s = state_of c.args.start.follower in
    λ i starts.
    IfErr-weaker c.report_log-verdict.result _ _
    (stops-in-log (g.R.SignatureCheck.meaning c.args.receipts.now) i s (signatures_left s c.args.start.signatures) starts _ _ _ _ _ c.in_default.ensures.all)
    c.report_log-verdict.ensures.effect_on_error
