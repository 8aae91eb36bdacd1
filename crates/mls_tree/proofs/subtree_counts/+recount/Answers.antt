use Rattle.std.proofs.Common.{◌+◌, ◌-◌, subst, arith}
use Rattle.mls_tree.specs.NodeArray.{tree_in}
use Rattle.mls_tree.specs.SubtreeCounts.{AreCounts}
use Rattle.mls_tree.proofs.Walking.{leaves_at-split}
use Rattle.mls_tree.proofs.Counting.{beside-left, beside-right, kept-near, kept-far}
use Rattle.mls_tree.proofs.subtree_counts.+recount.Goals as goal

pub recount-requires : goal.recount-requires
recount-requires t c =
    let s = leaves_at-split _ _ c.if-level-eq0.false c.leaves_of.ensures.value in (
      omega (arith, c.decreases),
      (
        omega arith,
        (
          omega arith,
          (
            omega arith,
            (
              omega arith,
              (beside-left c.args.nodes.now c.args.first c.leaves_of.result c.args.level c.if-level-eq0.false c.leaves_of.ensures.value c.args.counts.now c.args.leaf c.if-leaf-middle.true c.requires.beside).0,
            ),
          ),
        ),
      ),
    )

pub add_up-requires-clause-right : goal.add_up-requires-clause-right
add_up-requires-clause-right t c =
    let e = c.leaves_of.ensures.value in
    subst (λ k. AreCounts (c.args.first + k) (tree_in c.args.nodes.now (c.args.level - 1) (c.args.first + k)) c.recount.new.counts) e
    (kept-far c.args.nodes.now c.args.first c.leaves_of.result c.args.level c.if-level-eq0.false e c.args.counts.now c.recount.new.counts c.recount.ensures.preserved
    (beside-left c.args.nodes.now c.args.first c.leaves_of.result c.args.level c.if-level-eq0.false e c.args.counts.now c.args.leaf c.if-leaf-middle.true c.requires.beside).1)

pub recount-requires-else-leaf-middle : goal.recount-requires-else-leaf-middle
recount-requires-else-leaf-middle t c =
    let s = leaves_at-split _ _ c.if-level-eq0.false c.leaves_of.ensures.value in (
      omega (arith, c.decreases),
      (
        omega arith,
        (
          omega arith,
          (
            omega arith,
            (
              omega arith,
              (beside-right c.args.nodes.now c.args.first c.leaves_of.result c.args.level c.if-level-eq0.false c.leaves_of.ensures.value c.args.counts.now c.args.leaf c.if-leaf-middle.false c.requires.beside).1,
            ),
          ),
        ),
      ),
    )

pub add_up-requires-else-leaf-middle-clause-left : goal.add_up-requires-else-leaf-middle-clause-left
add_up-requires-else-leaf-middle-clause-left t c =
    kept-near c.args.nodes.now c.args.first c.leaves_of.result c.args.level c.if-level-eq0.false c.leaves_of.ensures.value c.args.counts.now c.recount-else-leaf-middle.new.counts
    c.recount-else-leaf-middle.ensures.preserved
    (beside-right c.args.nodes.now c.args.first c.leaves_of.result c.args.level c.if-level-eq0.false c.leaves_of.ensures.value c.args.counts.now c.args.leaf c.if-leaf-middle.false c.requires.beside).0
