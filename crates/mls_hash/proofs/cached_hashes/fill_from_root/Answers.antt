use Rattle.std.proofs.Common.{arith, rules, ◌-◌}
use Rattle.mls_tree.proofs.Trees.{leaf_count-positive}
use Rattle.mls_hash.proofs.KeptHashing.{node_index_there}
use Rattle.mls_hash.proofs.cached_hashes.fill_from_root.Goals as goal

pub overflow_sub-root : goal.overflow_sub-root
overflow_sub-root c = omega (arith, c.leaf_count-root.ensures, leaf_count-positive c.args.tree.now.tree)

pub unreachable-requires : goal.unreachable-requires
unreachable-requires c =
    let there = node_index_there c.args.tree.now.tree (c.leaf_count-root.result - 1) (omega (arith, c.leaf_count-root.ensures, leaf_count-positive c.args.tree.now.tree)) in
    search rules
