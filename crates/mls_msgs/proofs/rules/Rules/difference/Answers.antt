use Rattle.std.proofs.Common.{refl}
use Rattle.mls_msgs.proofs.RuleSets.{has_rule-difference}
use Rattle.mls_msgs.proofs.rules.Rules.difference.Goals as goal

pub returns : goal.returns
returns c = record { difference = has_rule-difference c.args.self c.args.rules _ refl }
