use Rattle.std.proofs.Common.{arith}
use Rattle.mls_check.proofs.Marking.{marked_everywhere}
use Rattle.mls_check.proofs.parent_hash_validity.first_unmarked.Goals as goal

pub returns : goal.returns
returns c =
    marked_everywhere c.args.tree.now.tree c.args.marks.now c.node_index_count-node_index-end.result c.node_index_count-node_index-end.ensures.count
    (λ p l. c.loop-node_index.invariant p (omega arith))
