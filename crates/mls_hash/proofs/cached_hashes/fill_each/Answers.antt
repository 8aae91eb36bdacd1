use Rattle.std.proofs.Common.{arith, ap, rules}
use Rattle.mls_tree.specs.PublicTreeModel.{plain}
use Rattle.mls_tree.specs.Tree.{leaf_count}
use Rattle.mls_tree.proofs.Descent.{leaf_count-limit}
use Rattle.mls_tree.proofs.Trees.{leaf_count-positive}
use Rattle.mls_hash.proofs.KeptHashing.{node_index_there}
use Rattle.mls_hash.proofs.cached_hashes.fill_each.Goals as goal

pub overflow_mul-node_index-end : goal.overflow_mul-node_index-end
overflow_mul-node_index-end c = omega (arith, c.leaf_count.ensures, leaf_count-limit (plain c.args.tree.now))

pub overflow_sub-node_index-end : goal.overflow_sub-node_index-end
overflow_sub-node_index-end c = omega (arith, c.leaf_count.ensures, leaf_count-positive c.args.tree.now.tree)

pub unreachable-requires : goal.unreachable-requires
unreachable-requires c =
    let there = node_index_there c.loop-node_index.tree.tree c.loop-node_index.node_index
    (omega (arith, c.loop-node_index-test.true, c.leaf_count.ensures, ap leaf_count c.loop-node_index.invariant.tree)) in
    search rules
