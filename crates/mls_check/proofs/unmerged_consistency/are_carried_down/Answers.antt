use Rattle.std.proofs.Common.{arith, refl}
use Rattle.mls_check.proofs.CarriedDown.{carried_everywhere}
use Rattle.mls_check.proofs.unmerged_consistency.are_carried_down.Goals as goal

pub returns : goal.returns
returns c = (
  λ w. carried_everywhere c.args.tree.now.tree c.node_index_count-node_index-end.result c.node_index_count-node_index-end.ensures.count
      (λ p l. c.loop-node_index.invariant p (omega arith)),
  λ w. refl,
)
