use Rattle.std.proofs.Common.{arith, refl}
use Rattle.mls_tree.specs.Tree.{leaf_at}
use Rattle.mls_signatures.proofs.LeafLists.{below-next, below-all}
use Rattle.mls_signatures.proofs.Repeats.{extends-none}
use Rattle.mls_signatures.proofs.push_signatures.push_tree_signatures.Goals as goal

pub loop-index-init : goal.loop-index-init
loop-index-init c = extends-none c.args.list.now

pub loop-index-preserved : goal.loop-index-preserved
loop-index-preserved c =
    let t = c.args.tree.now.tree in
    let context = c.args.context.now in
    below-next context.cipher_suite context.group_id t c.loop-index.index c.args.list.now c.loop-index.list c.loop-index.invariant
    c.push_non_blank_leaf_signature.new.list (leaf_at 0 t c.loop-index.index) refl c.in_ok-push_non_blank_leaf_signature.ensures

pub returns : goal.returns
returns c =
    let context = c.args.context.now in
    below-all context.cipher_suite context.group_id c.args.tree.now.tree c.loop-index.index c.args.list.now c.loop-index.list c.loop-index.invariant
    (omega (arith, c.leaf_count-index-end.ensures)) (omega (arith, c.leaf_count-index-end.ensures))
