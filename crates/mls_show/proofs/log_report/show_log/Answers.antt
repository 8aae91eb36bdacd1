use Rattle.std.proofs.Common.{rules, subst, ◌∙◌}
use Rattle.std.specs.Io.KnownBytes.{Appends}
use Rattle.mls_wire.specs.Devices.{AppendsPrefix}
use Rattle.mls_wire.specs.declared.fault.RunFault.TheVariants.{Write, Memory}
use Rattle.mls_show.proofs.Outcomes.{IfErr-is}
use Rattle.mls_show.proofs.LogLines.{shows-log, stops-in_last_line, stops-without_memory}
use Rattle.mls_show.proofs.log_report.show_log.Goals as goal

pub returns-clause-shown : goal.returns-clause-shown
returns-clause-shown g c =
    shows-log _ _ _ _ _ _ _ _ _ _ c.in_ok-is_broken.ensures.printed _ (subst (Appends _ _) (c.as_slice.ensures.value ∙ c.in_ok-line.ensures) c.in_ok-write_bytes.ensures.all) c.verdict_of.ensures

pub returns-in_err-line-clause-effect_on_error : goal.returns-in_err-line-clause-effect_on_error
returns-in_err-line-clause-effect_on_error g c =
    IfErr-is c.from_residual-in_err-line.result _ Memory (search rules) (stops-without_memory _ _ _ _ _ _ _ _ _ c.in_ok-is_broken.ensures.printed)

pub returns-in_err-write_bytes-clause-effect_on_error : goal.returns-in_err-write_bytes-clause-effect_on_error
returns-in_err-write_bytes-clause-effect_on_error g c =
    IfErr-is c.from_residual-in_err-write_bytes.result _ Write (search rules)
    (stops-in_last_line _ _ _ _ _ _ _ _ _ _ c.in_ok-is_broken.ensures.printed (subst (AppendsPrefix _ _) (c.as_slice.ensures.value ∙ c.in_ok-line.ensures) c.in_err-write_bytes.ensures.effect_on_error))
