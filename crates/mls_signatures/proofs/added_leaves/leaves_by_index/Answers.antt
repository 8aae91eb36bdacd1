use Rattle.mls_signatures.proofs.AddedLeaves.{mapping-start, mapping-next, mapping-all}
use Rattle.mls_signatures.proofs.added_leaves.leaves_by_index.Goals as goal

pub loop-leaf-init : goal.loop-leaf-init
loop-leaf-init c = mapping-start c.args.leaves.now c.new-by_index.result c.new-by_index.ensures.empty

pub loop-leaf-preserved : goal.loop-leaf-preserved
loop-leaf-preserved c =
    mapping-next c.args.leaves.now c.loop-leaf.leaf-index c.loop-leaf.by_index c.insert.new.self c.loop-leaf.invariant c.leaf-item.result c.loop-leaf-test.true c.leaf-item.is
    c.in-Ok.ensures.updates.0

pub returns : goal.returns
returns c = mapping-all c.args.leaves.now c.loop-leaf.leaf-index c.loop-leaf.by_index c.loop-leaf.invariant c.loop-leaf-test.false
