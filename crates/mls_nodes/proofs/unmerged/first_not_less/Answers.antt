use Rattle.std.proofs.Common.{arith, length, ◌≡◌, ◌∙◌, sym}
use Rattle.mls_nodes.proofs.SortedLists.{not_less-first}
use Rattle.mls_nodes.proofs.unmerged.first_not_less.Goals as goal

pub returns-then-item-leaf : goal.returns-then-item-leaf
returns-then-item-leaf c =
    not_less-first c.args.leaves.now c.args.leaf c.loop-index.index (omega (arith, c.loop-index-test.true)) c.loop-index.invariant (λ l. omega (arith, c.if-item-leaf.true))

pub returns : goal.returns
returns c =
    let done : c.loop-index.index ≡ length c.args.leaves.now = omega (arith, c.loop-index-test.false, c.loop-index.auto.index-end) in
    sym done ∙ not_less-first c.args.leaves.now c.args.leaf c.loop-index.index (omega (arith, done)) c.loop-index.invariant (λ l. absurd (omega (arith, done, l)))
