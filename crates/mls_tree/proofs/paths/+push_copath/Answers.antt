use Rattle.mls_tree.proofs.Walking.{copath-leaf, copath-left, copath-right}
use Rattle.mls_tree.proofs.paths.+push_copath.Goals as goal

pub returns-then-level-eq0 : goal.returns-then-level-eq0
returns-then-level-eq0 t c = copath-leaf c.args.first c.args.leaf c.args.level c.args.out.now.items c.if-level-eq0.true

pub returns-in_ok-push : goal.returns-in_ok-push
returns-in_ok-push t c =
    copath-left c.args.first c.leaves_of.result c.args.level c.args.leaf c.if-level-eq0.false c.leaves_of.ensures.value c.args.out.now.items _ _
    c.root_of.result c.root_of.ensures c.if-leaf-middle.true c.in_ok-push_copath.ensures c.in_ok-push.ensures.items

pub returns-in_ok-push-2 : goal.returns-in_ok-push-2
returns-in_ok-push-2 t c =
    copath-right c.args.first c.leaves_of.result c.args.level c.args.leaf c.if-level-eq0.false c.leaves_of.ensures.value c.args.out.now.items _ _
    c.root_of-else-leaf-middle.result c.root_of-else-leaf-middle.ensures c.if-leaf-middle.false c.in_ok-push_copath-2.ensures c.in_ok-push-2.ensures.items
