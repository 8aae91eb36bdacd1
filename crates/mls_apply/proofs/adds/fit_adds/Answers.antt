use Rattle.std.proofs.Common.{◌≡◌, ℕ, List, Err, IsSome, ◌∙◌, ◌+◌, drop, refl, ap, sym, subst, arith}
use Rattle.std.proofs.lemmas.Result.{err_from_is_err_and}
use Rattle.mls_tree.proofs.MergedLists.{split-left_rises}
use Rattle.mls_apply.specs.AppliedList.{after_adds, new_members}
use Rattle.mls_apply.specs.Outline.{IsOutline}
use Rattle.mls_apply.specs.declared.fault.ApplyFault.TheVariants.{TooManyLeaves}
use Rattle.mls_apply.specs.declared.list_item.ListItem.{ListItem}
use Rattle.mls_apply.proofs.Updating.{next_item}
use Rattle.mls_apply.proofs.AddedAtOnce.{placed-up}
use Rattle.mls_apply.proofs.FoundLeaves.{Finding, finding-start, finding-small, finding-member, finding-other, finding-refused, finding-all}
use Rattle.mls_apply.proofs.adds.fit_adds.Goals.{in-Add+in_ok-push, in_default}
use Rattle.mls_apply.proofs.adds.fit_adds.Goals as goal

pub loop-item-init : goal.loop-item-init
loop-item-init c =
    let items = c.args.items.now in
    let t = c.args.tree.now.tree in
    subst (λ js. Finding (after_adds (new_members items) t) items t js 0) (sym c.new-added.ensures.items) (finding-start items t c.requires)

pub overflow_add-start : goal.overflow_add-start
overflow_add-start c =
    let items = c.args.items.now in
    let i = c.loop-item.item-index in
    let x = c.item-item.result in
    let t = c.args.tree.now.tree in
    let whole = after_adds (new_members items) t in
    let here = subst (λ xs. Finding whole xs t c.loop-item.added.items c.loop-item.start) (next_item items i x c.loop-item-test.true c.item-item.is) c.loop-item.invariant in
    let small =
    finding-small whole x (drop (i + 1) items) t c.loop-item.added.items c.loop-item.start here c.in-Add.field-0 (ap (λ (y : ListItem). y.proposal) (sym c.item.view_is) ∙ c.in-Add.is)
    c.leaf_from-index.result c.leaf_from-index.ensures in
    omega arith

pub loop-item-preserved : goal.loop-item-preserved
loop-item-preserved c =
    let items = c.args.items.now in
    let i = c.loop-item.item-index in
    let x = c.item-item.result in
    let t = c.args.tree.now.tree in
    let added = c.loop-item.added.items in
    let rest = drop (i + 1) items in
    let whole = after_adds (new_members items) t in
    let here = subst (λ xs. Finding whole xs t added c.loop-item.start) (next_item items i x c.loop-item-test.true c.item-item.is) c.loop-item.invariant in
    elim c.match-item.branch [
      | in-Add+in_ok-push w ↦
          rw (w.added-is, w.start-is, w.in_ok-push.ensures.items)
          (finding-member whole x rest t added c.loop-item.start here w.in-Add.field-0 (ap (λ (y : ListItem). y.proposal) (sym c.item.view_is) ∙ w.in-Add.is)
          w.leaf_from-index.result w.leaf_from-index.ensures)
      | in_default w ↦
          rw (w.added-is, w.start-is)
          (finding-other whole x rest t added c.loop-item.start here (λ k e. w.in_default.not-Add k (ap (λ (y : ListItem). y.proposal) c.item.view_is ∙ e)))
    ]

pub check_lists-requires : goal.check_lists-requires
check_lists-requires c =
    let added : List ℕ = c.loop-item.added.items in
    split-left_rises c.leaf_count.result added c.split_leaves.result.0.now c.split_leaves.result.1.now
    (placed-up c.loop-item.invariant.tree added c.loop-item.start c.loop-item.invariant.adding.placed)
    (sym c.as_slice.ensures.value ∙ c.split_leaves.ensures.whole) c.split_leaves.ensures.front c.split_leaves.ensures.rest

pub returns-in_err-check_lists-clause-too_many_leaves : goal.returns-in_err-check_lists-clause-too_many_leaves
returns-in_err-check_lists-clause-too_many_leaves c =
    let t = c.args.tree.now.tree in
    let added : List ℕ = c.loop-item.added.items in
    let p = err_from_is_err_and c.from_residual-in_err-check_lists.result c.from_residual-in_err-check_lists.ensures.1 in
    λ mapped.
    let joined = sym p.1 ∙ mapped in
    let fault : p.0 ≡ TooManyLeaves = cc in
    finding-refused c.args.items.now c.loop-item.item-index t added c.split_leaves.result.0.now c.split_leaves.result.1.now c.loop-item.start c.loop-item-test.false c.loop-item.invariant
    (sym c.as_slice.ensures.value ∙ c.split_leaves.ensures.whole) (rw (sym c.leaf_count.ensures) c.split_leaves.ensures.front) (rw (sym c.leaf_count.ensures) c.split_leaves.ensures.rest)
    (c.in_err-check_lists.ensures.too_many_leaves (ap Err (sym p.2 ∙ fault)))

outline : (c : goal.After-new) → IsOutline (after_adds (new_members c.args.items.now) c.args.tree.now.tree) c.loop-item.added.items c.args.tree.now.tree
outline c =
    finding-all c.args.items.now c.loop-item.item-index c.args.tree.now.tree c.loop-item.added.items c.split_leaves.result.0.now c.split_leaves.result.1.now c.loop-item.start
    c.loop-item-test.false c.loop-item.invariant
    (sym c.as_slice.ensures.value ∙ c.split_leaves.ensures.whole) (rw (sym c.leaf_count.ensures) c.split_leaves.ensures.front) (rw (sym c.leaf_count.ensures) c.split_leaves.ensures.rest)
    c.in_ok-check_lists.ensures.fits

pub returns-clause-fit : goal.returns-clause-fit
returns-clause-fit c = subst (λ o. IsSome o) (sym (outline c).is) refl

pub returns-clause-outline : goal.returns-clause-outline
returns-clause-outline c =
    let t = c.args.tree.now.tree in
    subst (λ js. IsOutline (after_adds (new_members c.args.items.now) t) js t) (sym c.new.ensures) (outline c)
