use Rattle.std.proofs.Common.{rules, ◌∙◌, ap, subst}
use Rattle.std.specs.Io.KnownBytes.{Appends}
use Rattle.mls_wire.specs.Devices.{AppendsPrefix}
use Rattle.mls_nodes.specs.declared.context.GroupContext.{GroupContext}
use Rattle.mls_report.specs.Replay.{last_lines}
use Rattle.mls_wire.specs.declared.fault.RunFault.TheVariants.{Write}
use Rattle.mls_show.proofs.Outcomes.{IfErr-is}
use Rattle.mls_report.proofs.Replaying.{part-ending, printed-log}
use Rattle.mls_report.proofs.replay_report.write_log_report.Goals as goal

pub returns-clause-printed : goal.returns-clause-printed
returns-clause-printed g c =
    let progress = c.follow_log.new.progress in
    let epoch = ap (λ (x : GroupContext). x.epoch) c.context.ensures in
    let text = c.as_str.ensures.value ∙ c.in_ok-text.ensures ∙ ap (λ k. last_lines c.in_ok-is_broken.is_broken progress.accepted progress.refused k) epoch in
    printed-log _ _ _ _ _ _ _ _ _ _ _ _ _ c.in_ok-is_broken.ensures.followed (subst (Appends _ _) text c.in_ok-write_text.ensures.all) c.verdict_of.ensures

pub returns-in_err-write_text-clause-effect_on_error : goal.returns-in_err-write_text-clause-effect_on_error
returns-in_err-write_text-clause-effect_on_error g c =
    let progress = c.follow_log.new.progress in
    let epoch = ap (λ (x : GroupContext). x.epoch) c.context.ensures in
    let text = c.as_str.ensures.value ∙ c.in_ok-text.ensures ∙ ap (λ k. last_lines c.in_ok-is_broken.is_broken progress.accepted progress.refused k) epoch in
    IfErr-is c.from_residual-in_err-write_text.result _ Write (search rules)
    (part-ending _ _ _ _ _ _ _ _ _ _ _ _ c.in_ok-is_broken.ensures.followed (subst (AppendsPrefix _ _) text c.in_err-write_text.ensures.effect_on_error))
