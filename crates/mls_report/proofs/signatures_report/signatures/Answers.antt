use Rattle.std.proofs.Common.{inl, refl}
use Rattle.std.proofs.lemmas.Result.{IfOk-weaker}
use Rattle.mls_follow.specs.CoveredLogs.{all_good}
use Rattle.mls_start.specs.Inputs.{inputs_of}
use Rattle.mls_report.proofs.Replaying.{in-decline, line-part, reports-decline}
use Rattle.mls_report.proofs.signatures_report.signatures.Goals as goal

pub returns-in-Err-Found-clause-printed : goal.returns-in-Err-Found-clause-printed
returns-in-Err-Found-clause-printed g c =
    let declines = rw c.in-Err-Found.field-0-is at c.in-Err-Found.ensures.refused in
    IfOk-weaker c.report_finding.result _ _
    (λ v printed. inl (reports-decline all_good (inputs_of c.args.start) c.in-Err-Found.finding declines _ _ _ v printed)) c.report_finding.ensures.printed

pub returns-in-Err-Found-clause-effect_on_error : goal.returns-in-Err-Found-clause-effect_on_error
returns-in-Err-Found-clause-effect_on_error g c =
    let declines = rw c.in-Err-Found.field-0-is at c.in-Err-Found.ensures.refused in
    line-part c.report_finding.result _ c.report_finding.ensures.effect_on_error
    (λ part. inl (inl (in-decline all_good (inputs_of c.args.start) c.in-Err-Found.finding declines _ _ _ part))) c.report_finding.ensures.memory
    (λ none. inl (inl (record { unread = refl; wrote = none }))) c.report_finding.ensures.fault
