use Rattle.std.proofs.Common.{None, refl}
use Rattle.mls_tree.proofs.Changing.{change-left, change-right, changes-left, changes-right}
use Rattle.mls_tree.proofs.blanks.+blank_above.Goals as goal

pub returns-then-leaf-middle-clause-tree : goal.returns-then-leaf-middle-clause-tree
returns-then-leaf-middle-clause-tree t c =
    change-left c.args.nodes.now _ c.args.first c.leaves_of.result c.args.level c.if-level-eq0.false c.leaves_of.ensures.value None tt c.requires.long
    c.blank_above.ensures.changes (λ _. None) c.args.leaf c.if-leaf-middle.true refl c.blank_above.ensures.tree

pub returns-then-leaf-middle-clause-changes : goal.returns-then-leaf-middle-clause-changes
returns-then-leaf-middle-clause-changes t c =
    changes-left c.args.nodes.now _ c.args.first c.leaves_of.result c.args.level c.if-level-eq0.false c.leaves_of.ensures.value None tt c.requires.long c.blank_above.ensures.changes

pub returns-else-leaf-middle-clause-tree : goal.returns-else-leaf-middle-clause-tree
returns-else-leaf-middle-clause-tree t c =
    change-right c.args.nodes.now _ c.args.first c.leaves_of.result c.args.level c.if-level-eq0.false c.leaves_of.ensures.value None tt c.requires.long
    c.blank_above-else-leaf-middle.ensures.changes (λ _. None) c.args.leaf c.if-leaf-middle.false refl c.blank_above-else-leaf-middle.ensures.tree

pub returns-else-leaf-middle-clause-changes : goal.returns-else-leaf-middle-clause-changes
returns-else-leaf-middle-clause-changes t c =
    changes-right c.args.nodes.now _ c.args.first c.leaves_of.result c.args.level c.if-level-eq0.false c.leaves_of.ensures.value None tt c.requires.long c.blank_above-else-leaf-middle.ensures.changes
