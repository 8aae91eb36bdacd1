use Rattle.std.proofs.Common.{◌∙◌, ap, sym, arith, ◌+◌, Err, [], map}
use Rattle.std.specs.Prelude.{option_copied}
use Rattle.mls_tree.specs.MergedLists.{replacement}
use Rattle.mls_tree.proofs.Refusals.{handed_on, err_same}
use Rattle.mls_tree.proofs.Walking.{leaves_at-split, parent-found}
use Rattle.mls_tree.proofs.MergedLists.{split-left_rises, split-right_rises}
use Rattle.mls_tree.proofs.MergedParents.{none-pushed, leaf-pushed, none-overfilled, leaf-overfilled, near-overfilled, far-overfilled, root-overfilled, blank-overfilled, blank-pushed, root-pushed, replacement-push, no_leaves, some_leaves}
use Rattle.mls_tree.proofs.merged_parents.+push_new_parents.Goals as goal
use Rattle.mls_tree.proofs.merged_parents.+push_new_parents.Goals.{then-level-eq0-via-then-level-eq0, then-level-eq0-via-else-level-eq0+then-is_empty}

pub returns-then-level-eq0-clause-parents : goal.returns-then-level-eq0-clause-parents
returns-then-level-eq0-clause-parents t c =
    elim c.then-level-eq0.branch [
      | then-level-eq0-via-then-level-eq0 w ↦ leaf-pushed c.args.nodes.now c.args.first c.args.level c.args.indices.now _ w.if-level-eq0.true
      | then-level-eq0-via-else-level-eq0+then-is_empty w ↦
          none-pushed c.args.nodes.now c.args.first c.args.level c.args.indices.now _ (no_leaves c.args.indices.now w.is_empty.result w.is_empty.ensures w.if-is_empty.true)
    ]

pub returns-then-level-eq0-clause-fits : goal.returns-then-level-eq0-clause-fits
returns-then-level-eq0-clause-fits t c =
    elim c.then-level-eq0.branch [
      | then-level-eq0-via-then-level-eq0 w ↦ leaf-overfilled c.args.nodes.now c.args.first c.args.level c.args.indices.now [] w.if-level-eq0.true
      | then-level-eq0-via-else-level-eq0+then-is_empty w ↦
          none-overfilled c.args.nodes.now c.args.first c.args.level c.args.indices.now [] (no_leaves c.args.indices.now w.is_empty.result w.is_empty.ensures w.if-is_empty.true)
    ]

pub push_new_parents-requires : goal.push_new_parents-requires
push_new_parents-requires t c =
    let s = leaves_at-split _ _ c.if-level-eq0.false c.leaves_of.ensures.value in (
      omega (arith, c.decreases, c.if-level-eq0.false),
      (
        omega (arith, c.requires.low),
        (
          omega (arith, s, c.requires.inside, c.leaves_of.ensures.value),
          (
            omega (arith, s, c.requires.long, c.leaves_of.ensures.value),
            split-left_rises (c.args.first + c.leaves_of.result) c.args.indices.now _ _ c.requires.increasing c.split_leaves.ensures.whole c.split_leaves.ensures.front c.split_leaves.ensures.rest,
          ),
        ),
      ),
    )

pub push_new_parents-requires-2 : goal.push_new_parents-requires-2
push_new_parents-requires-2 t c =
    let s = leaves_at-split _ _ c.if-level-eq0.false c.leaves_of.ensures.value in (
      omega (arith, c.decreases, c.if-level-eq0.false),
      (
        omega (arith, c.requires.low),
        (
          omega (arith, s, c.requires.inside, c.leaves_of.ensures.value),
          (
            omega (arith, s, c.requires.long, c.leaves_of.ensures.value),
            split-right_rises (c.args.first + c.leaves_of.result) c.args.indices.now _ _ c.requires.increasing c.split_leaves.ensures.whole c.split_leaves.ensures.front c.split_leaves.ensures.rest,
          ),
        ),
      ),
    )

pub returns-in_err-push_new_parents-clause-too_many_leaves : goal.returns-in_err-push_new_parents-clause-too_many_leaves
returns-in_err-push_new_parents-clause-too_many_leaves t c h =
    near-overfilled c.args.nodes.now c.args.first c.leaves_of.result c.args.level c.if-level-eq0.false c.leaves_of.ensures.value
    c.args.indices.now _ _ c.requires.increasing c.split_leaves.ensures.whole c.split_leaves.ensures.front c.split_leaves.ensures.rest
    (c.in_err-push_new_parents.ensures.too_many_leaves (sym (handed_on c.from_residual.result c.in_err-push_new_parents.field-0.0 c.from_residual.ensures.0 c.from_residual.ensures.1) ∙ h))

pub returns-in_err-push_new_parents-2-clause-too_many_leaves : goal.returns-in_err-push_new_parents-2-clause-too_many_leaves
returns-in_err-push_new_parents-2-clause-too_many_leaves t c h =
    let r = c.from_residual-in_err-push_new_parents-2 in
    far-overfilled c.args.nodes.now c.args.first c.leaves_of.result c.args.level c.if-level-eq0.false c.leaves_of.ensures.value
    c.args.indices.now _ _ c.requires.increasing c.split_leaves.ensures.whole c.split_leaves.ensures.front c.split_leaves.ensures.rest
    c.in_ok-push_new_parents.ensures.fits
    (c.in_err-push_new_parents-2.ensures.too_many_leaves (sym (handed_on r.result c.in_err-push_new_parents-2.field-0.0 r.ensures.0 r.ensures.1) ∙ h))

pub returns-in_err-parent-clause-too_many_leaves : goal.returns-in_err-parent-clause-too_many_leaves
returns-in_err-parent-clause-too_many_leaves t c h =
    let r = c.from_residual-in_err-parent in
    let many = err_same _ _ _ (sym (handed_on r.result c.in_err-parent.field-0.0 r.ensures.0 r.ensures.1) ∙ h) in
    let at = parent-found c.args.nodes.now _ c.index-nodes-middle.result
    (omega (arith, leaves_at-split _ _ c.if-level-eq0.false c.leaves_of.ensures.value, c.requires.long, c.leaves_of.ensures.positive))
    c.index-nodes-middle.is ∙ sym c.as_parent.ensures ∙ ap (λ o. option_copied o) c.in-Some.is in
    root-overfilled c.args.nodes.now c.args.first c.leaves_of.result c.args.level c.if-level-eq0.false c.leaves_of.ensures.value
    c.args.indices.now _ _ c.requires.increasing c.split_leaves.ensures.whole c.split_leaves.ensures.front c.split_leaves.ensures.rest
    c.in_ok-push_new_parents.ensures.fits c.in_ok-push_new_parents-2.ensures.fits c.in-Some.parent.now _ at
    (c.in_err-parent.ensures.too_many_leaves (ap (λ e. Err e) many))

pub returns-in_ok-push-clause-parents : goal.returns-in_ok-push-clause-parents
returns-in_ok-push-clause-parents t c =
    let at = parent-found c.args.nodes.now _ c.index-nodes-middle.result
    (omega (arith, leaves_at-split _ _ c.if-level-eq0.false c.leaves_of.ensures.value, c.requires.long, c.leaves_of.ensures.positive))
    c.index-nodes-middle.is ∙ sym c.as_parent.ensures ∙ ap (λ o. option_copied o) c.in-Some.is in
    replacement-push c.push_new_parents-2.new.out.items c.push.new.self.items _ c.in_ok-push.ensures.items
    ∙ root-pushed c.args.nodes.now c.args.first c.leaves_of.result c.args.level c.if-level-eq0.false c.leaves_of.ensures.value
    c.args.indices.now _ _ c.requires.increasing c.split_leaves.ensures.whole c.split_leaves.ensures.front c.split_leaves.ensures.rest
    (map replacement c.args.out.now.items) _ _ c.in_ok-push_new_parents.ensures.parents c.in_ok-push_new_parents-2.ensures.parents
    c.in-Some.parent.now _ (some_leaves c.args.indices.now c.is_empty.result c.is_empty.ensures c.if-is_empty.false) at c.in_ok-parent.ensures.merged

pub returns-in_ok-push-clause-fits : goal.returns-in_ok-push-clause-fits
returns-in_ok-push-clause-fits t c =
    let at = parent-found c.args.nodes.now _ c.index-nodes-middle.result
    (omega (arith, leaves_at-split _ _ c.if-level-eq0.false c.leaves_of.ensures.value, c.requires.long, c.leaves_of.ensures.positive))
    c.index-nodes-middle.is ∙ sym c.as_parent.ensures ∙ ap (λ o. option_copied o) c.in-Some.is in
    root-overfilled c.args.nodes.now c.args.first c.leaves_of.result c.args.level c.if-level-eq0.false c.leaves_of.ensures.value
    c.args.indices.now _ _ c.requires.increasing c.split_leaves.ensures.whole c.split_leaves.ensures.front c.split_leaves.ensures.rest
    c.in_ok-push_new_parents.ensures.fits c.in_ok-push_new_parents-2.ensures.fits c.in-Some.parent.now _ at c.in_ok-parent.ensures.fits

pub returns-in_default-clause-parents : goal.returns-in_default-clause-parents
returns-in_default-clause-parents t c =
    let at = parent-found c.args.nodes.now _ c.index-nodes-middle.result
    (omega (arith, leaves_at-split _ _ c.if-level-eq0.false c.leaves_of.ensures.value, c.requires.long, c.leaves_of.ensures.positive))
    c.index-nodes-middle.is ∙ sym c.as_parent.ensures ∙ ap (λ o. option_copied o) c.in_default.is in
    blank-pushed c.args.nodes.now c.args.first c.leaves_of.result c.args.level c.if-level-eq0.false c.leaves_of.ensures.value
    c.args.indices.now _ _ c.requires.increasing c.split_leaves.ensures.whole c.split_leaves.ensures.front c.split_leaves.ensures.rest
    (map replacement c.args.out.now.items) _ _ c.in_ok-push_new_parents.ensures.parents c.in_ok-push_new_parents-2.ensures.parents at

pub returns-in_default-clause-fits : goal.returns-in_default-clause-fits
returns-in_default-clause-fits t c =
    let at = parent-found c.args.nodes.now _ c.index-nodes-middle.result
    (omega (arith, leaves_at-split _ _ c.if-level-eq0.false c.leaves_of.ensures.value, c.requires.long, c.leaves_of.ensures.positive))
    c.index-nodes-middle.is ∙ sym c.as_parent.ensures ∙ ap (λ o. option_copied o) c.in_default.is in
    blank-overfilled c.args.nodes.now c.args.first c.leaves_of.result c.args.level c.if-level-eq0.false c.leaves_of.ensures.value
    c.args.indices.now _ _ c.requires.increasing c.split_leaves.ensures.whole c.split_leaves.ensures.front c.split_leaves.ensures.rest
    c.in_ok-push_new_parents.ensures.fits c.in_ok-push_new_parents-2.ensures.fits at
