use Rattle.std.proofs.Common.{◌∙◌, subst}
use Rattle.mls_wire.specs.Devices.{AppendsPrefix}
use Rattle.mls_show.proofs.Outcomes.{OnErr-any}
use Rattle.mls_report.proofs.packages_report.report_package.Goals as goal

pub returns-in_err-write_text-clause-effect_on_error : goal.returns-in_err-write_text-clause-effect_on_error
returns-in_err-write_text-clause-effect_on_error g c =
    let line = c.as_str.ensures.value ∙ c.in_ok-line.ensures in
    OnErr-any c.from_residual-in_err-write_text.result (subst (AppendsPrefix _ _) line c.in_err-write_text.ensures.effect_on_error)
