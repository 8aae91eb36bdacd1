use Rattle.std.proofs.Common.{ℕ, List, ◌<◌, arith}
use Rattle.std.proofs.lemmas.List.Elements.{All-more}
use Rattle.mls_tree.proofs.leaf_split.prefix_below.Goals as goal

pub loop-index-preserved : goal.loop-index-preserved
loop-index-preserved c =
    let leaves : List ℕ = c.args.leaves.now in
    All-more (λ i. i < c.args.middle) leaves c.loop-index.index 0 c.loop-index-test.true c.loop-index.invariant (omega (arith, c.if-leaf-middle.false))
