use Rattle.std.proofs.Common.{arith}
use Rattle.mls_check.proofs.Placing.{sorted_everywhere}
use Rattle.mls_check.proofs.unmerged_order.first_unsorted.Goals as goal

pub returns : goal.returns
returns c =
    sorted_everywhere c.args.tree.now.tree c.node_index_count-node_index-end.result c.node_index_count-node_index-end.ensures.count
    (λ p l. c.loop-node_index.invariant p (omega arith))
