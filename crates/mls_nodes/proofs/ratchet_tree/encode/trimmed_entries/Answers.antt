use Rattle.std.proofs.Common.{◌∙◌, arith}
use Rattle.mls_nodes.proofs.Trimming.{blank_end, set_end, no_end}
use Rattle.mls_nodes.proofs.ratchet_tree.encode.trimmed_entries.Goals.{then-loop-count-test+else-is_none, else-loop-count-test}
use Rattle.mls_nodes.proofs.ratchet_tree.encode.trimmed_entries.Goals as goal

pub loop-count-preserved : goal.loop-count-preserved
loop-count-preserved c = record {
  same = blank_end c.args.entries.now c.loop-count.count c.index-entries-count.result c.loop-count-test.true c.loop-count.invariant.within c.index-entries-count.is c.if-is_none.ensures ∙ c.loop-count.invariant.same;
  within = omega arith;
}

pub returns : goal.returns
returns c =
    elim c.loop-count-test.branch [
      | then-loop-count-test+else-is_none w ↦ set_end c.args.entries.now c.loop-count.count w.index-entries-count.result w.loop-count-test.true c.loop-count.invariant.within w.index-entries-count.is w.if-is_none.ensures ∙ c.loop-count.invariant.same
      | else-loop-count-test w ↦ no_end c.args.entries.now c.loop-count.count (omega arith) ∙ c.loop-count.invariant.same
    ]
