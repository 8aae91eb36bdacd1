use Rattle.std.proofs.Common.{rules, arith, ◌<◌, ◌/◌}
use Rattle.mls_tree.specs.Tree.{leaf_count}
use Rattle.mls_tree.proofs.Trees.{leaf_count-positive}
use Rattle.mls_apply.proofs.blank_hashes.middle_copath.Goals as goal

pub unreachable-requires : goal.unreachable-requires
unreachable-requires c =
    let t = c.args.tree.now.tree in
    let inside : c.leaf_count.result / 2 < leaf_count t = omega (arith, c.leaf_count.ensures, leaf_count-positive t) in
    search rules
