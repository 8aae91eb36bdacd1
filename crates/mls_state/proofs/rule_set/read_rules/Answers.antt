use Rattle.std.proofs.Common.{◌∙◌, ap, sym}
use Rattle.mls_state.specs.Parsing.{rule_set_at}
use Rattle.mls_state.proofs.RuleSets.{rule_set_found}
use Rattle.mls_state.proofs.rule_set.read_rules.Goals as goal

pub returns : goal.returns
returns c =
    let found =
    rule_set_found c.fork-ahead.result c.read.new.reader c.in_ok-bits.bits c.in-Some.rules
    c.in_ok-bits.ensures c.in-Some.ensures.encoding in
    ap rule_set_at (sym c.fork-ahead.ensures) ∙ found
