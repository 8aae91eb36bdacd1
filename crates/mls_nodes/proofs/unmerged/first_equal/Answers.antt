use Rattle.std.proofs.Common.{arith, length, ◌≡◌, subst}
use Rattle.std.specs.Prelude.{◌≢◌}
use Rattle.std.specs.List.{AllWithin}
use Rattle.mls_nodes.proofs.SortedLists.{equal-first, equal-none}
use Rattle.mls_nodes.proofs.unmerged.first_equal.Goals as goal

pub returns-then-item-leaf : goal.returns-then-item-leaf
returns-then-item-leaf c = equal-first c.args.leaves.now c.args.leaf c.loop-index.index c.loop-index-test.true c.loop-index.invariant (omega (arith, c.if-item-leaf.true))

pub returns : goal.returns
returns c =
    let done : c.loop-index.index ≡ length c.args.leaves.now = omega (arith, c.loop-index-test.false, c.loop-index.auto.index-end) in
    equal-none c.args.leaves.now c.args.leaf (subst (λ n. AllWithin (λ x. x ≢ c.args.leaf) c.args.leaves.now 0 n) done c.loop-index.invariant)
