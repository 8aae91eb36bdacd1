use Rattle.std.proofs.Common.{arith}
use Rattle.mls_check.proofs.CarriedDown.{carried_are_consistent}
use Rattle.mls_check.proofs.Placing.{consistent_everywhere}
use Rattle.mls_check.proofs.unmerged_consistency.first_inconsistent_unmerged.Goals as goal

pub returns : goal.returns
returns c =
    consistent_everywhere c.args.tree.now.tree c.node_index_count-node_index-end.result c.node_index_count-node_index-end.ensures.count
    (λ p l. c.loop-node_index.invariant p (omega arith))

pub returns-then-are_carried_down : goal.returns-then-are_carried_down
returns-then-are_carried_down c = carried_are_consistent c.args.tree.now.tree (c.are_carried_down.ensures.0 c.if-are_carried_down.true)
