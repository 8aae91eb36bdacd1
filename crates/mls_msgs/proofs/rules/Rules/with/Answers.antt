use Rattle.std.proofs.Common.{refl}
use Rattle.std.proofs.lemmas.Nat.{or_lt}
use Rattle.mls_msgs.proofs.RuleSets.{has_rule-union}
use Rattle.mls_msgs.proofs.rules.Rules.with.Goals as goal

pub invariant_of-result : goal.invariant_of-result
invariant_of-result c = record { fits = or_lt 13 c.args.self.members c.args.rules.members c.args.self.fits c.args.rules.fits }

pub returns : goal.returns
returns c = record { union = has_rule-union c.args.self c.args.rules _ refl }
