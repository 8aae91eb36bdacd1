use Rattle.std.proofs.Common.{◌∙◌, None, length, ap, arith}
use Rattle.mls_index.proofs.Tables.{length-last, base-same, base-blank}
use Rattle.mls_index.proofs.entry_table.EntryTable.make_room.Goals as goal

pub loop-self-preserved : goal.loop-self-preserved
loop-self-preserved c = record {
  base = λ p. base-blank c.loop-self.self _ c.in_ok-push.ensures.pushed p ∙ c.loop-self.invariant.base p;
  entries = c.loop-self.invariant.entries;
  came = c.loop-self.invariant.came;
  long = omega (arith, c.loop-self.invariant.long, ap length c.in_ok-push.ensures.pushed ∙ length-last c.loop-self.self.numbers None);
}

pub returns-in_err-push-clause-base : goal.returns-in_err-push-clause-base
returns-in_err-push-clause-base c = λ p. base-same c.loop-self.self _ c.in_err-push.ensures.unchanged_on_error p ∙ c.loop-self.invariant.base p
