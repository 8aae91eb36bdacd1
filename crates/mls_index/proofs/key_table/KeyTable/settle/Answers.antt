use Rattle.std.proofs.Common.{rules, subst, ◌≡◌, ◌∷◌}
use Rattle.mls_index.specs.KeyTableInternal.{IsSettling}
use Rattle.mls_index.proofs.key_table.KeyTable.settle.Goals as goal

pub loop-node_index-preserved : goal.loop-node_index-preserved
loop-node_index-preserved c = λ h.
    let cut : c.loop-node_index.rest.now ≡ c.in-Some.node_index.now ∷ c.in-Some.tail.now = search rules in
    c.settle_at.ensures c.in-Some.tail.now (subst (λ ps. IsSettling c.args.kind c.args.tree.now.tree ps c.loop-node_index.self) cut (c.loop-node_index.invariant h))
