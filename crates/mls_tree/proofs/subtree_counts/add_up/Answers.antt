use Rattle.std.proofs.Common.{◌+◌, ◌-◌, ◌∙◌, ap, sym, subst, refl, arith}
use Rattle.mls_tree.specs.NodeArray.{tree_in}
use Rattle.mls_tree.specs.SubtreeCounts.{AreCounts, parent_weight}
use Rattle.mls_tree.proofs.Walking.{leaves_at-split, parent-found}
use Rattle.mls_tree.proofs.Counting.{sums-low, added-kept, added-counts, sum-subtree_count}
use Rattle.mls_tree.proofs.subtree_counts.add_up.Goals as goal

pub overflow_add-counts : goal.overflow_add-counts
overflow_add-counts c =
    let low = sums-low c.args.nodes.now c.args.first c.leaves_of.result c.args.level c.requires.deep c.leaves_of.ensures.value c.count_of-left.result c.count_of-right.result c.weight-own.result _
    c.count_of-left.ensures c.count_of-right.ensures c.weight-own.ensures in
    let a = low.0 in
    omega (arith, c.leaves_of.ensures.low)

pub overflow_add-counts-2 : goal.overflow_add-counts-2
overflow_add-counts-2 c =
    let low = sums-low c.args.nodes.now c.args.first c.leaves_of.result c.args.level c.requires.deep c.leaves_of.ensures.value c.count_of-left.result c.count_of-right.result c.weight-own.result _
    c.count_of-left.ensures c.count_of-right.ensures c.weight-own.ensures in
    let a = low.1 in
    omega (arith, c.leaves_of.ensures.low)

pub overflow_add-counts-3 : goal.overflow_add-counts-3
overflow_add-counts-3 c =
    let low = sums-low c.args.nodes.now c.args.first c.leaves_of.result c.args.level c.requires.deep c.leaves_of.ensures.value c.count_of-left.result c.count_of-right.result c.weight-own.result _
    c.count_of-left.ensures c.count_of-right.ensures c.weight-own.ensures in
    let a = low.2 in
    omega (arith, c.leaves_of.ensures.low)

pub returns-clause-counts : goal.returns-clause-counts
returns-clause-counts c =
    added-counts c.args.nodes.now c.args.first c.leaves_of.result c.args.level c.requires.deep c.leaves_of.ensures.value c.args.counts.now _ _ c.requires.capacity refl
    (sum-subtree_count c.args.nodes.now c.args.first c.leaves_of.result c.args.level c.requires.deep c.leaves_of.ensures.value c.count_of-left.result c.count_of-right.result c.weight-own.result
    c.count_of-left.ensures c.count_of-right.ensures
    (c.weight-own.ensures
    ∙ ap parent_weight (sym (parent-found c.args.nodes.now _ c.index-nodes-middle.result
    (omega (arith, leaves_at-split _ _ c.requires.deep c.leaves_of.ensures.value, c.requires.long, c.leaves_of.ensures.positive)) c.index-nodes-middle.is))))
    c.requires.left (subst (λ k. AreCounts (c.args.first + k) (tree_in c.args.nodes.now (c.args.level - 1) (c.args.first + k)) c.args.counts.now) (sym c.leaves_of.ensures.value) c.requires.right)

pub returns-clause-preserved : goal.returns-clause-preserved
returns-clause-preserved c =
    added-kept c.args.nodes.now c.args.first c.leaves_of.result c.args.level c.requires.deep c.leaves_of.ensures.value c.args.counts.now _ _ c.requires.capacity refl
