use Rattle.std.proofs.Common.{inr}
use Rattle.std.proofs.lemmas.Result.{IfOk-weaker, on_err_weaker}
use Rattle.mls_report.proofs.start_report.validate.Goals as goal

pub returns-in-Ok-clause-printed : goal.returns-in-Ok-clause-printed
returns-in-Ok-clause-printed g c =
    IfOk-weaker c.report_finding.result _ _
    (λ verdict printed. record { finding = c.in-Ok.finding; found = c.in-Ok.ensures; wrote = printed.0; verdict_is = printed.1 })
    c.report_finding.ensures.printed

pub returns-in-Ok-clause-effect_on_error : goal.returns-in-Ok-clause-effect_on_error
returns-in-Ok-clause-effect_on_error g c =
    on_err_weaker c.report_finding.result
    (λ printed. inr (record { finding = c.in-Ok.finding; found = c.in-Ok.ensures; wrote = printed }))
    c.report_finding.ensures.effect_on_error
