use Rattle.std.proofs.Common.{rules, subst}
use Rattle.std.specs.Io.KnownBytes.{Appends}
use Rattle.mls_wire.specs.Devices.{AppendsPrefix}
use Rattle.mls_wire.specs.declared.fault.RunFault.TheVariants.{Write}
use Rattle.mls_show.proofs.Outcomes.{IfErr-is}
use Rattle.mls_gate.proofs.Replying.{answered-behind, stopped-behind}
use Rattle.mls_gate.proofs.records.answer_record.Goals as goal

pub returns-clause-printed : goal.returns-clause-printed
returns-clause-printed g c =
    answered-behind _ _ _ _ _ c.in_ok-answer.answer c.in_ok-answer.ensures.answered c.is_last.result c.is_last.ensures
    (subst (Appends _ _) c.text.ensures c.in_ok-write_text.ensures.all)

pub returns-in_err-write_text-clause-effect_on_error : goal.returns-in_err-write_text-clause-effect_on_error
returns-in_err-write_text-clause-effect_on_error g c =
    IfErr-is c.from_residual-in_err-write_text.result _ Write (search rules)
    (stopped-behind _ _ _ _ _ c.in_ok-answer.answer c.in_ok-answer.ensures.answered (subst (AppendsPrefix _ _) c.text.ensures c.in_err-write_text.ensures.effect_on_error))
