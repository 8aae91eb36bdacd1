use Rattle.std.proofs.Common.{rules}
use Rattle.std.proofs.lemmas.Result.{IfOk-weaker, IfErr-weaker}
use Rattle.mls_start.proofs.FirstStates.{starts_first}
use Rattle.mls_report.proofs.Replaying.{Appends-nil, line-part}
use Rattle.mls_wire.specs.declared.fault.RunFault.TheVariants.{Memory}
use Rattle.mls_show.proofs.Outcomes.{IfErr-is}
use Rattle.mls_gate.proofs.Openings.{before-opening, reports-decline, in-decline, in-opening, reports-after, part-after}
use Rattle.mls_gate.proofs.records.gate.Goals as goal

pub returns-in_err-try_clone-clause-effect_on_error : goal.returns-in_err-try_clone-clause-effect_on_error
returns-in_err-try_clone-clause-effect_on_error g c =
    IfErr-is c.from_residual.result _ Memory (search rules) (before-opening _ _ _ _ _ _ (Appends-nil _))

pub returns-in-Err-Found-clause-printed : goal.returns-in-Err-Found-clause-printed
returns-in-Err-Found-clause-printed g c =
    let declines = rw (c.in-Err-Found.field-0-is, c.in_ok-try_clone.ensures) at c.in-Err-Found.ensures.refused in
    IfOk-weaker c.report_finding.result _ _ (reports-decline _ _ _ _ _ _ _ declines) c.report_finding.ensures.printed

pub returns-in-Err-Found-clause-effect_on_error : goal.returns-in-Err-Found-clause-effect_on_error
returns-in-Err-Found-clause-effect_on_error g c =
    let declines = rw (c.in-Err-Found.field-0-is, c.in_ok-try_clone.ensures) at c.in-Err-Found.ensures.refused in
    line-part c.report_finding.result _ c.report_finding.ensures.effect_on_error (in-decline _ _ _ _ _ _ _ declines) c.report_finding.ensures.memory
    (before-opening _ _ _ _ _ _) c.report_finding.ensures.fault

pub returns-in_err-written-in-Ok-clause-effect_on_error : goal.returns-in_err-written-in-Ok-clause-effect_on_error
returns-in_err-written-in-Ok-clause-effect_on_error g c =
    let can = rw c.in_ok-try_clone.ensures at c.in-Ok.ensures.starts in
    IfErr-is c.from_residual-in_err-written-in-Ok.result _ c.in_err-written-in-Ok.field-0.0 (search rules)
    (in-opening _ _ _ _ _ _ _ _ can c.in_err-written-in-Ok.field-0.0 c.in_err-written-in-Ok.ensures.effect_on_error)

pub serve-requires-clause-ready : goal.serve-requires-clause-ready
serve-requires-clause-ready g c =
    let can = rw c.in_ok-try_clone.ensures at c.in-Ok.ensures.starts in
    (_, starts_first _ _ _ can)

pub returns-in-Ok-clause-printed : goal.returns-in-Ok-clause-printed
returns-in-Ok-clause-printed g c =
    let can = rw c.in_ok-try_clone.ensures at c.in-Ok.ensures.starts in
    IfOk-weaker c.serve.result _ _ (reports-after _ _ _ _ _ _ _ _ _ _ can c.in_ok-written-in-Ok.ensures.all) c.serve.ensures.printed

pub returns-in-Ok-clause-effect_on_error : goal.returns-in-Ok-clause-effect_on_error
returns-in-Ok-clause-effect_on_error g c =
    let can = rw c.in_ok-try_clone.ensures at c.in-Ok.ensures.starts in
    IfErr-weaker c.serve.result _ _ (part-after _ _ _ _ _ _ _ _ _ _ can c.in_ok-written-in-Ok.ensures.all) c.serve.ensures.effect_on_error
