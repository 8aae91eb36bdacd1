use Rattle.std.proofs.Common.{◌-◌, arith, ap, length}
use Rattle.std.proofs.Math.ListN.{length-replicate}
use Rattle.mls_tree.specs.SubtreeCounts.{zero_count}
use Rattle.mls_tree.proofs.Trees.{leaf_count-positive}
use Rattle.mls_tree.proofs.cached_counts.count_anew.Goals as goal

pub overflow_sub-parents : goal.overflow_sub-parents
overflow_sub-parents c = omega (arith, c.leaf_count.ensures, leaf_count-positive c.args.tree.now.tree)

pub set_all-requires : goal.set_all-requires
set_all-requires c = omega (arith, ap length c.in_ok-list.ensures, length-replicate (c.leaf_count.result - 1) zero_count, c.leaf_count.ensures, leaf_count-positive c.args.tree.now.tree)
