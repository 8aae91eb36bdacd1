use Rattle.mls_show.proofs.StrictNumbers.{number_more}
use Rattle.mls_show.proofs.state_text.numbers_in.Goals as goal

pub strict-preserved : goal.strict-preserved
strict-preserved c =
    number_more c.args.rules c.strict.numbers.items c.put_rule.new.numbers.items _ c.strict.number c.strict-test.true c.in_ok-put_rule.ensures c.strict.invariant
