use Rattle.std.proofs.Common.{◌∙◌, sym, ap, ◌==◌, arith, ◌-◌}
use Rattle.std.proofs.lemmas.Nat.Bits.{shr_and_one}
use Rattle.mls_msgs.proofs.RuleSets.{strict_from, strict_not_from, has_rule-inside, has_rule-outside}
use Rattle.mls_msgs.proofs.rules.Rules.has.Goals as goal

pub returns-then-number-lt40 : goal.returns-then-number-lt40
returns-then-number-lt40 c =
    sym (has_rule-outside c.args.self c.args.number (strict_not_from c.args.number (grind arith)))

pub returns : goal.returns
returns c =
    ap (λ x. x == 1) (shr_and_one c.args.self.members (c.args.number - 40))
    ∙ sym (has_rule-inside c.args.self c.args.number
    (strict_from c.args.number (omega arith) (omega arith)))
