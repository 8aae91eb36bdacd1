use Rattle.std.proofs.Common.{ap, ◌∙◌, sym, arith, ◌*◌, ◌+◌, ◌-◌, Some, length-set}
use Rattle.mls_tree.specs.NodeArray.{parent_part}
use Rattle.mls_tree.specs.TreeOperations.{with_unmerged}
use Rattle.mls_tree.specs.NewUnmergedLists.{with_new_list}
use Rattle.mls_tree.proofs.Walking.{leaves_at-split, parent-found}
use Rattle.mls_tree.proofs.Changing.{change-left, change-right, changes-left, changes-right}
use Rattle.mls_tree.proofs.Lists.{popped-left, popped-right, written-part}
use Rattle.mls_tree.proofs.unmerged_leaves.+put_lists.Goals as goal

pub put_lists-requires : goal.put_lists-requires
put_lists-requires t c =
    let h = popped-left c.args.nodes.now c.args.first c.leaves_of.result c.args.level c.if-level-eq0.false c.leaves_of.ensures.value c.args.leaf c.set_list.new.entry c.args.lists.now.items _ _ _ c.requires.lists c.unwrap-list.ensures c.pop.ensures.items c.if-leaf-middle.true in
    let s = leaves_at-split _ _ c.if-level-eq0.false c.leaves_of.ensures.value in
    let n = length-set c.args.nodes.now (2 * (c.args.first + c.leaves_of.result) - 1) c.set_list.new.entry in (
      omega (arith, c.decreases, c.if-level-eq0.false),
      (
        omega (arith, c.requires.low),
        (
          omega (arith, s, c.requires.inside, c.leaves_of.ensures.value),
          (
            omega (arith, s, n, c.requires.long, c.leaves_of.ensures.value),
            h.0,
          ),
        ),
      ),
    )

pub put_lists-requires-else-leaf-middle : goal.put_lists-requires-else-leaf-middle
put_lists-requires-else-leaf-middle t c =
    let h = popped-right c.args.nodes.now c.args.first c.leaves_of.result c.args.level c.if-level-eq0.false c.leaves_of.ensures.value c.args.leaf c.set_list.new.entry c.args.lists.now.items _ _ _ c.requires.lists c.unwrap-list.ensures c.pop.ensures.items c.if-leaf-middle.false in
    let s = leaves_at-split _ _ c.if-level-eq0.false c.leaves_of.ensures.value in
    let n = length-set c.args.nodes.now (2 * (c.args.first + c.leaves_of.result) - 1) c.set_list.new.entry in (
      omega (arith, c.decreases, c.if-level-eq0.false),
      (
        omega (arith, c.requires.low),
        (
          omega (arith, s, c.requires.inside, c.leaves_of.ensures.value),
          (
            omega (arith, s, n, c.requires.long, c.leaves_of.ensures.value),
            h.0,
          ),
        ),
      ),
    )

pub returns-then-leaf-middle-clause-tree : goal.returns-then-leaf-middle-clause-tree
returns-then-leaf-middle-clause-tree t c =
    let h = popped-left c.args.nodes.now c.args.first c.leaves_of.result c.args.level c.if-level-eq0.false c.leaves_of.ensures.value c.args.leaf c.set_list.new.entry c.args.lists.now.items _ _ _ c.requires.lists c.unwrap-list.ensures c.pop.ensures.items c.if-leaf-middle.true in
    let at = parent-found c.args.nodes.now _ c.index-nodes-middle.result (omega (arith, leaves_at-split _ _ c.if-level-eq0.false c.leaves_of.ensures.value, c.requires.long, c.leaves_of.ensures.positive)) c.index-nodes-middle.is ∙ ap (λ v. parent_part (Some v)) c.index-nodes-middle.is in
    change-left c.args.nodes.now _ c.args.first c.leaves_of.result c.args.level c.if-level-eq0.false c.leaves_of.ensures.value c.set_list.new.entry c.set_list.ensures.no_leaf c.requires.long
    c.put_lists.ensures.changes (with_unmerged c.args.leaf) c.args.leaf c.if-leaf-middle.true
    (written-part c.args.leaf _ _ _ (c.set_list.ensures.part ∙ ap (λ p. with_new_list p c.unwrap-list.result) (sym at)) h.1)
    c.put_lists.ensures.tree

pub returns-then-leaf-middle-clause-changes : goal.returns-then-leaf-middle-clause-changes
returns-then-leaf-middle-clause-changes t c =
    changes-left c.args.nodes.now _ c.args.first c.leaves_of.result c.args.level c.if-level-eq0.false c.leaves_of.ensures.value c.set_list.new.entry c.set_list.ensures.no_leaf c.requires.long c.put_lists.ensures.changes

pub returns-else-leaf-middle-clause-tree : goal.returns-else-leaf-middle-clause-tree
returns-else-leaf-middle-clause-tree t c =
    let h = popped-right c.args.nodes.now c.args.first c.leaves_of.result c.args.level c.if-level-eq0.false c.leaves_of.ensures.value c.args.leaf c.set_list.new.entry c.args.lists.now.items _ _ _ c.requires.lists c.unwrap-list.ensures c.pop.ensures.items c.if-leaf-middle.false in
    let at = parent-found c.args.nodes.now _ c.index-nodes-middle.result (omega (arith, leaves_at-split _ _ c.if-level-eq0.false c.leaves_of.ensures.value, c.requires.long, c.leaves_of.ensures.positive)) c.index-nodes-middle.is ∙ ap (λ v. parent_part (Some v)) c.index-nodes-middle.is in
    change-right c.args.nodes.now _ c.args.first c.leaves_of.result c.args.level c.if-level-eq0.false c.leaves_of.ensures.value c.set_list.new.entry c.set_list.ensures.no_leaf c.requires.long
    c.put_lists-else-leaf-middle.ensures.changes (with_unmerged c.args.leaf) c.args.leaf c.if-leaf-middle.false
    (written-part c.args.leaf _ _ _ (c.set_list.ensures.part ∙ ap (λ p. with_new_list p c.unwrap-list.result) (sym at)) h.1)
    c.put_lists-else-leaf-middle.ensures.tree

pub returns-else-leaf-middle-clause-changes : goal.returns-else-leaf-middle-clause-changes
returns-else-leaf-middle-clause-changes t c =
    changes-right c.args.nodes.now _ c.args.first c.leaves_of.result c.args.level c.if-level-eq0.false c.leaves_of.ensures.value c.set_list.new.entry c.set_list.ensures.no_leaf c.requires.long c.put_lists-else-leaf-middle.ensures.changes
