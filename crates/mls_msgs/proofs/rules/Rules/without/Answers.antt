use Rattle.std.proofs.Common.{refl, arith}
use Rattle.mls_msgs.proofs.RuleSets.{has_rule-without}
use Rattle.mls_msgs.proofs.rules.Rules.without.Goals as goal

pub returns-clause-other_rules : goal.returns-clause-other_rules
returns-clause-other_rules c = has_rule-without c.args.self _ c.args.number (omega arith) (omega arith) refl
