use Rattle.std.proofs.Common.{◌≡◌, ◌+◌, ◌<◌, true}
use Rattle.mls_msgs.specs.Rules.{has_rule}
use Rattle.mls_msgs.specs.StrictRules.{strict_number}
use Rattle.mls_msgs.specs.declared.strict_rule.StrictRule.{StrictRule}
use Rattle.mls_strict.specs.StrictTrees.{Meets}
use Rattle.mls_strict.proofs.strict_tree.validate_strict.Given as goal

abbrev pub invariant-loop-rule : goal.invariant-loop-rule
invariant-loop-rule l =
    (r : StrictRule) → strict_number r < 40 + l.rule-index → has_rule l.asked (strict_number r) ≡ true → Meets l.context l.tree.tree r
