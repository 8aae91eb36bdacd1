use Rattle.std.proofs.Common.{ap, sym, Some}
use Rattle.mls_msgs.proofs.RuleSets.{rule_bits-determine}
use Rattle.mls_msgs.proofs.rules.Rules.from_bits.Goals as goal

pub returns-clause-inverse : goal.returns-clause-inverse
returns-clause-inverse c r e = ap Some (rule_bits-determine _ r (sym e))
