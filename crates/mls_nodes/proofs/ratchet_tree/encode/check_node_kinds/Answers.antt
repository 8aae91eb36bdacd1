use Rattle.std.proofs.Common.{arith, sym}
use Rattle.mls_nodes.proofs.Trimming.{stand_next}
use Rattle.mls_nodes.proofs.ratchet_tree.encode.check_node_kinds.Goals as goal

pub loop-node_index-preserved : goal.loop-node_index-preserved
loop-node_index-preserved c = record {
  stand = stand_next c.args.entries.now c.loop-node_index.node_index c.index-entries-node_index.result c.loop-node_index-test.true c.index-entries-node_index.is c.loop-node_index.invariant.stand (sym c.if-not-may_be_at.ensures);
  few = omega arith;
}
