use Rattle.std.proofs.Common.{None, ap, arith}
use Rattle.mls_tree.specs.Tree.{leaf_count}
use Rattle.mls_tree.proofs.Kept.{leaf_count-put_leaf}
use Rattle.mls_apply.proofs.Leaves.{shown_inside}
use Rattle.mls_apply.proofs.removes.clear_leaf.Goals as goal

pub set_leaf-requires : goal.set_leaf-requires
set_leaf-requires c =
    shown_inside c.args.tree.now.tree c.args.index c.leaf.result c.is_none.result c.leaf.ensures c.is_none.ensures c.if-is_none.false

pub blank_path-requires : goal.blank_path-requires
blank_path-requires c =
    let t = c.args.tree.now.tree in
    let inside = shown_inside t c.args.index c.leaf.result c.is_none.result c.leaf.ensures c.is_none.ensures c.if-is_none.false in
    let same = leaf_count-put_leaf 0 t c.args.index None in
    let put = ap leaf_count c.in_ok-set_leaf.ensures.put in
    omega arith
