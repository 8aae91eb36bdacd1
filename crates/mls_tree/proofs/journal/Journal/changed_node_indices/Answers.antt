use Rattle.std.proofs.Common.{drop, subst, arith}
use Rattle.mls_tree.specs.ChangedNodes.{AgreeExceptAt}
use Rattle.mls_tree.specs.Journals.{all_undone}
use Rattle.mls_tree.proofs.ChangedNodeIndices.{changes_listed-start, changes_listed-step, changes_listed-positive, changes_listed-low, changes_listed-all}
use Rattle.mls_tree.proofs.SortedIndices.{indices-rise, agree-except_kept}
use Rattle.mls_tree.proofs.journal.Journal.changed_node_indices.Goals as goal

pub loop-index-init : goal.loop-index-init
loop-index-init c =
    changes_listed-start c.as_slice-formers.result.now c.args.tree.now.tree c.new-node_indices.result.items c.leaf_count-leaves.result c.args.tree.now.shape c.new-node_indices.ensures.items c.leaf_count-leaves.ensures

pub loop-index-preserved : goal.loop-index-preserved
loop-index-preserved c =
    changes_listed-step c.as_slice-formers.result.now c.loop-index.index c.index-formers-index.result c.args.tree.now.tree c.loop-index.node_indices.items c.loop-index.leaves c.loop-index.invariant
    (omega (arith, c.loop-index-test.true)) (omega (arith, c.loop-index.auto.index)) c.index-formers-index.is
    c.push_changed.new.out.items c.in_ok-former_leaves.former_leaves c.in_ok-former_leaves.ensures.leaves c.in_ok-former_leaves.ensures.node_indices

pub returns-clause-agree : goal.returns-clause-agree
returns-clause-agree c =
    let t = c.args.tree.now.tree in
    let node_indices = c.loop-index.node_indices.items in
    agree-except_kept node_indices c.sort_unstable.new.self.items c.dedup.new.self.items c.sort_unstable.ensures.permutation c.dedup.ensures.filtered
    _ t
    (subst (λ xs. AgreeExceptAt node_indices (all_undone xs t) t) c.as_slice-formers.ensures.value
    (changes_listed-all c.as_slice-formers.result.now c.loop-index.index t node_indices c.loop-index.leaves c.loop-index.invariant (omega (arith, c.loop-index-test.false))))

pub returns-clause-increasing : goal.returns-clause-increasing
returns-clause-increasing c =
    indices-rise c.loop-index.node_indices.items c.sort_unstable.new.self.items c.dedup.new.self.items c.sort_unstable.ensures.permutation c.dedup.ensures.filtered c.sort_unstable.ensures.sorted

pub push_changed-requires-clause-some : goal.push_changed-requires-clause-some
push_changed-requires-clause-some c =
    changes_listed-positive (drop c.loop-index.index c.as_slice-formers.result.now) c.args.tree.now.tree c.loop-index.node_indices.items c.loop-index.leaves c.loop-index.invariant

pub push_changed-requires-clause-few : goal.push_changed-requires-clause-few
push_changed-requires-clause-few c =
    changes_listed-low (drop c.loop-index.index c.as_slice-formers.result.now) c.args.tree.now.tree c.loop-index.node_indices.items c.loop-index.leaves c.loop-index.invariant
