use Rattle.std.proofs.Common.{rules, ◌∙◌, sym, ap}
use Rattle.std.proofs.lemmas.Result.{err_from_is_err_and}
use Rattle.mls_msgs.specs.Rules.{has_rule}
use Rattle.mls_strict.proofs.FirstFaults.{fault-named}
use Rattle.mls_strict.proofs.strict_tree.validate_strict.Goals as goal

pub returns-in_err-check_rule-clause-fault : goal.returns-in_err-check_rule-clause-fault
returns-in_err-check_rule-clause-fault c =
    let p = err_from_is_err_and c.from_residual.result c.from_residual.ensures.1 in
    let is_asked = ap (has_rule c.args.asked) (sym c.number.ensures) ∙ (sym c.has.ensures ∙ c.if-has.true) in
    rw (p.1, p.2) (fault-named c.args.asked c.args.context.now c.args.tree.now.tree c.loop-rule.rule-index _ c.in_err-check_rule.field-0.0
    (search rules) is_asked c.loop-rule.invariant c.in_err-check_rule.ensures.fault)
