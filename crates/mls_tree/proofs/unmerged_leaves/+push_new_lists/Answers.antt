use Rattle.std.proofs.Common.{ap, ◌∙◌, sym, arith, refl}
use Rattle.std.specs.Prelude.{option_copied}
use Rattle.mls_tree.specs.TreeOperations.{is_overfilled}
use Rattle.mls_tree.proofs.Walking.{leaves_at-split, parent-found}
use Rattle.mls_tree.proofs.Lists.{new_lists-pushed_left, new_lists-pushed_right, capacity-here, capacity-near, capacity-far, is_overfilled-capacity}
use Rattle.mls_tree.proofs.unmerged_leaves.+push_new_lists.Goals as goal
use Rattle.mls_tree.proofs.unmerged_leaves.+push_new_lists.Goals.{then-leaf-middle+in_ok-push_new_lists, else-leaf-middle+in_ok-push_new_lists-2}

pub push_new_lists-requires : goal.push_new_lists-requires
push_new_lists-requires t c =
    let s = leaves_at-split _ _ c.if-level-eq0.false c.leaves_of.ensures.value in (
      omega (arith, c.decreases, c.if-level-eq0.false),
      (
        omega (arith, c.requires.low),
        (
          omega (arith, s, c.requires.inside, c.leaves_of.ensures.value),
          (
            omega (arith, s, c.requires.long, c.leaves_of.ensures.value),
            capacity-near c.args.nodes.now c.args.first c.leaves_of.result c.args.level c.if-level-eq0.false c.leaves_of.ensures.value c.args.leaf c.requires.fits c.if-leaf-middle.true,
          ),
        ),
      ),
    )

pub push_new_lists-requires-else-leaf-middle : goal.push_new_lists-requires-else-leaf-middle
push_new_lists-requires-else-leaf-middle t c =
    let s = leaves_at-split _ _ c.if-level-eq0.false c.leaves_of.ensures.value in (
      omega (arith, c.decreases, c.if-level-eq0.false),
      (
        omega (arith, c.requires.low),
        (
          omega (arith, s, c.requires.inside, c.leaves_of.ensures.value),
          (
            omega (arith, s, c.requires.long, c.leaves_of.ensures.value),
            capacity-far c.args.nodes.now c.args.first c.leaves_of.result c.args.level c.if-level-eq0.false c.leaves_of.ensures.value c.args.leaf c.requires.fits c.if-leaf-middle.false,
          ),
        ),
      ),
    )

pub with_number-requires : goal.with_number-requires
with_number-requires t c =
    let at = parent-found c.args.nodes.now _ c.index-nodes-middle.result
    (omega (arith, leaves_at-split _ _ c.if-level-eq0.false c.leaves_of.ensures.value, c.requires.long, c.leaves_of.ensures.positive))
    c.index-nodes-middle.is ∙ sym c.as_parent.ensures ∙ ap (λ o. option_copied o) c.in-Some.is in
    is_overfilled-capacity c.args.leaf c.in-Some.parent.now
    (sym (ap (λ p. is_overfilled c.args.leaf p) at)
    ∙ capacity-here c.args.nodes.now c.args.first c.leaves_of.result c.args.level c.if-level-eq0.false c.leaves_of.ensures.value c.args.leaf c.requires.fits)

pub returns-in_ok-push-in-Some : goal.returns-in_ok-push-in-Some
returns-in_ok-push-in-Some t c =
    let at = parent-found c.args.nodes.now _ c.index-nodes-middle.result
    (omega (arith, leaves_at-split _ _ c.if-level-eq0.false c.leaves_of.ensures.value, c.requires.long, c.leaves_of.ensures.positive))
    c.index-nodes-middle.is ∙ sym c.as_parent.ensures ∙ ap (λ o. option_copied o) c.in-Some.is in
    elim c.if-leaf-middle.branch [
      | then-leaf-middle+in_ok-push_new_lists w ↦
          new_lists-pushed_left c.args.nodes.now c.args.first c.leaves_of.result c.args.level c.if-level-eq0.false c.leaves_of.ensures.value c.args.leaf c.args.out.now.items _ _ _ _
          at c.in_ok-list-in-Some.ensures c.in_ok-push-in-Some.ensures.items w.if-leaf-middle.true (ap (λ v. v.items) w.out-is ∙ w.in_ok-push_new_lists.ensures)
      | else-leaf-middle+in_ok-push_new_lists-2 w ↦
          new_lists-pushed_right c.args.nodes.now c.args.first c.leaves_of.result c.args.level c.if-level-eq0.false c.leaves_of.ensures.value c.args.leaf c.args.out.now.items _ _ _ _
          at c.in_ok-list-in-Some.ensures c.in_ok-push-in-Some.ensures.items w.if-leaf-middle.false (ap (λ v. v.items) w.out-is ∙ w.in_ok-push_new_lists-2.ensures)
    ]

pub returns-in_ok-push-in-None : goal.returns-in_ok-push-in-None
returns-in_ok-push-in-None t c =
    let at = parent-found c.args.nodes.now _ c.index-nodes-middle.result
    (omega (arith, leaves_at-split _ _ c.if-level-eq0.false c.leaves_of.ensures.value, c.requires.long, c.leaves_of.ensures.positive))
    c.index-nodes-middle.is ∙ sym c.as_parent.ensures ∙ ap (λ o. option_copied o) c.in-None.is in
    elim c.if-leaf-middle.branch [
      | then-leaf-middle+in_ok-push_new_lists w ↦
          new_lists-pushed_left c.args.nodes.now c.args.first c.leaves_of.result c.args.level c.if-level-eq0.false c.leaves_of.ensures.value c.args.leaf c.args.out.now.items _ _ _ _
          at refl c.in_ok-push-in-None.ensures.items w.if-leaf-middle.true (ap (λ v. v.items) w.out-is ∙ w.in_ok-push_new_lists.ensures)
      | else-leaf-middle+in_ok-push_new_lists-2 w ↦
          new_lists-pushed_right c.args.nodes.now c.args.first c.leaves_of.result c.args.level c.if-level-eq0.false c.leaves_of.ensures.value c.args.leaf c.args.out.now.items _ _ _ _
          at refl c.in_ok-push-in-None.ensures.items w.if-leaf-middle.false (ap (λ v. v.items) w.out-is ∙ w.in_ok-push_new_lists-2.ensures)
    ]
