use Rattle.std.proofs.Common.{Some, ap, arith}
use Rattle.mls_tree.specs.Tree.{leaf_count}
use Rattle.mls_tree.proofs.Kept.{leaf_count-put_leaf}
use Rattle.mls_apply.proofs.Leaves.{leaf_inside}
use Rattle.mls_apply.proofs.updates.replace_leaf.Goals as goal

pub put_shared-requires : goal.put_shared-requires
put_shared-requires c = leaf_inside c.args.tree.now.tree c.args.index c.requires

pub blank_path-requires : goal.blank_path-requires
blank_path-requires c =
    let t = c.args.tree.now.tree in
    let inside = leaf_inside t c.args.index c.requires in
    let same = leaf_count-put_leaf 0 t c.args.index (Some c.args.leaf.now) in
    let put = ap leaf_count c.in_ok-put_shared.ensures.put in
    omega arith
