use Rattle.mls_msgs.proofs.RuleSets.{has_rule-determines, rule_bits-determine, has_rule-plain, has_rule-strict, is_plain-iff}
use Rattle.mls_msgs.proofs.laws.rules_are_sets.Goals as goal

pub returns-clause-members : goal.returns-clause-members
returns-clause-members c = has_rule-determines

pub returns-clause-bits : goal.returns-clause-bits
returns-clause-bits c = rule_bits-determine

pub returns-clause-plain_has_none : goal.returns-clause-plain_has_none
returns-clause-plain_has_none c = has_rule-plain

pub returns-clause-strict_has_all : goal.returns-clause-strict_has_all
returns-clause-strict_has_all c = has_rule-strict

pub returns-clause-plain_is_empty : goal.returns-clause-plain_is_empty
returns-clause-plain_is_empty c = is_plain-iff
