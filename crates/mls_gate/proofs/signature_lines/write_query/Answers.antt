use Rattle.std.proofs.Common.{rules, ◌∙◌, ap, subst}
use Rattle.std.specs.Io.KnownBytes.{Appends}
use Rattle.std.proofs.lemmas.Result.{on_ok_weaker}
use Rattle.mls_wire.proofs.KnownBytes.{Appends-trans}
use Rattle.mls_wire.specs.Devices.{AppendsPrefix}
use Rattle.mls_wire.specs.declared.fault.RunFault.TheVariants.{Memory}
use Rattle.mls_show.proofs.Outcomes.{IfErr-is}
use Rattle.mls_gate.specs.Answers.{query_count_line}
use Rattle.mls_gate.proofs.Serving.{write-part}
use Rattle.mls_gate.proofs.VerifyLines.{in-lines, before-count, in-count}
use Rattle.mls_gate.proofs.signature_lines.write_query.Goals as goal

pub returns-in_err-count-clause-effect_on_error : goal.returns-in_err-count-clause-effect_on_error
returns-in_err-count-clause-effect_on_error g c =
    IfErr-is c.from_residual.result _ c.in_err-count.field-0.0 (search rules)
    (in-lines (g.C.SignatureCheck.meaning c.args.checker.now) _ _ _ c.in_err-count.field-0.0 c.in_err-count.ensures.effect_on_error)

pub returns-in_err-line-clause-effect_on_error : goal.returns-in_err-line-clause-effect_on_error
returns-in_err-line-clause-effect_on_error g c =
    IfErr-is c.from_residual-in_err-line.result _ Memory (search rules) (before-count (g.C.SignatureCheck.meaning c.args.checker.now) _ _ _ c.in_ok-count.ensures.all)

pub returns-clause-all : goal.returns-clause-all
returns-clause-all g c =
    let line = c.as_str.ensures.value ∙ c.in_ok-line.ensures ∙ ap query_count_line c.in_ok-count.ensures.count in
    on_ok_weaker c.write_text.result (λ more. Appends-trans _ _ _ _ _ c.in_ok-count.ensures.all (subst (Appends _ _) line more)) c.write_text.ensures.all

pub returns-clause-effect_on_error : goal.returns-clause-effect_on_error
returns-clause-effect_on_error g c =
    let line = c.as_str.ensures.value ∙ c.in_ok-line.ensures ∙ ap query_count_line c.in_ok-count.ensures.count in
    write-part c.write_text.result _ c.write_text.ensures.effect_on_error
    (λ more. in-count (g.C.SignatureCheck.meaning c.args.checker.now) _ _ _ _ c.in_ok-count.ensures.all (subst (AppendsPrefix _ _) line more))
    c.write_text.ensures.fault
