use Rattle.std.proofs.Common.{◌≡◌, ℕ, List, Some, Err, ◌∙◌, ◌+◌, ◌<◌, drop, ap, sym, subst}
use Rattle.std.specs.Prelude.{All}
use Rattle.std.specs.List.Sorted.{IsStrictlyIncreasing}
use Rattle.std.proofs.lemmas.Result.{err_from_is_err_and}
use Rattle.mls_tree.specs.Tree.{leaf_count}
use Rattle.mls_tree.specs.TreeOperations.{add_all_unmerged, overfills}
use Rattle.mls_tree.specs.Journals.{before}
use Rattle.mls_tree.specs.LoggedHashes.{HasRightHashes}
use Rattle.mls_apply.specs.AppliedList.{applied_tree, after_adds, new_members}
use Rattle.mls_apply.specs.declared.fault.ApplyFault.TheVariants.{TooManyLeaves}
use Rattle.mls_apply.specs.declared.list_item.ListItem.{ListItem}
use Rattle.mls_apply.proofs.Updating.{next_item}
use Rattle.mls_apply.proofs.AddedAtOnce.{placed-up}
use Rattle.mls_apply.proofs.Adding.{Adding, adding-other, adding-capacity, adding-member, adding-refused, adding-all}
use Rattle.mls_apply.proofs.adds.apply_adds.Goals.{in-Add+in_ok-index+in_ok-push, in_default}
use Rattle.mls_apply.proofs.adds.apply_adds.Goals as goal

pub put_member-requires-clause-capacity : goal.put_member-requires-clause-capacity
put_member-requires-clause-capacity c =
    let items = c.args.items.now in
    let i = c.loop-item.item-index in
    let x = c.item-item.result in
    let t = c.loop-item.tree.tree in
    let whole = after_adds (new_members items) c.args.tree.now.tree in
    let here = subst (λ xs. Adding whole xs t c.loop-item.added.items c.loop-item.start) (next_item items i x c.loop-item-test.true c.item-item.is) c.loop-item.invariant.adding in
    adding-capacity whole x (drop (i + 1) items) t c.loop-item.added.items c.loop-item.start here c.in-Add.key_package (ap (λ (y : ListItem). y.proposal) (sym c.item.view_is) ∙ c.in-Add.is)

pub loop-item-preserved : goal.loop-item-preserved
loop-item-preserved c =
    let items = c.args.items.now in
    let i = c.loop-item.item-index in
    let x = c.item-item.result in
    let t = c.loop-item.tree.tree in
    let rest = drop (i + 1) items in
    let whole = after_adds (new_members items) c.args.tree.now.tree in
    let here = subst (λ xs. Adding whole xs t c.loop-item.added.items c.loop-item.start) (next_item items i x c.loop-item-test.true c.item-item.is) c.loop-item.invariant.adding in
    elim c.match-item.branch [
      | in-Add+in_ok-index+in_ok-push w ↦
          record {
            adding =
                rw (w.tree-is, w.added-is, w.start-is, w.in_ok-push.ensures.items)
                (adding-member whole x rest t c.loop-item.added.items c.loop-item.start here w.in-Add.key_package (ap (λ (y : ListItem). y.proposal) (sym c.item.view_is) ∙ w.in-Add.is) w.in_ok-index.index w.put_member.new.tree.tree (rw w.deref.ensures at w.in_ok-index.ensures.put));
            same_before = (λ k. before (w.journal-is k) (w.tree-is k).tree) ∙ w.put_member.ensures.before ∙ c.loop-item.invariant.same_before;
            hashes = λ all. subst (λ v. v) (sym (λ k. HasRightHashes (w.journal-is k) (w.tree-is k).tree)) (w.put_member.ensures.hashes (c.loop-item.invariant.hashes all));
          }
      | in_default w ↦
          record {
            adding =
                rw (w.tree-is, w.added-is, w.start-is)
                (adding-other whole x rest t c.loop-item.added.items c.loop-item.start here (λ k e. w.in_default.not-Add k (ap (λ (y : ListItem). y.proposal) c.item.view_is ∙ e)));
            same_before = (λ k. before (w.journal-is k) (w.tree-is k).tree) ∙ c.loop-item.invariant.same_before;
            hashes = λ all. subst (λ v. v) (sym (λ k. HasRightHashes (w.journal-is k) (w.tree-is k).tree)) (c.loop-item.invariant.hashes all);
          }
    ]

pub add_unmerged-requires-clause-increasing : goal.add_unmerged-requires-clause-increasing
add_unmerged-requires-clause-increasing c =
    subst IsStrictlyIncreasing (sym c.as_slice.ensures.value) (placed-up c.loop-item.tree.tree c.loop-item.added.items c.loop-item.start c.loop-item.invariant.adding.placed)

pub add_unmerged-requires-clause-inside : goal.add_unmerged-requires-clause-inside
add_unmerged-requires-clause-inside c =
    let t = c.loop-item.tree.tree in
    subst (All (λ (i : ℕ). i < leaf_count t)) (sym c.as_slice.ensures.value) c.loop-item.invariant.adding.placed.inside

pub returns-in_err-add_unmerged-clause-too_many_leaves : goal.returns-in_err-add_unmerged-clause-too_many_leaves
returns-in_err-add_unmerged-clause-too_many_leaves c =
    let t = c.loop-item.tree.tree in
    let added : List ℕ = c.loop-item.added.items in
    let p = err_from_is_err_and c.from_residual-in_err-add_unmerged.result c.from_residual-in_err-add_unmerged.ensures.1 in
    λ mapped.
    let joined = sym p.1 ∙ mapped in
    let fault : p.0 ≡ TooManyLeaves = cc in
    adding-refused (after_adds (new_members c.args.items.now) c.args.tree.now.tree) c.args.items.now c.loop-item.item-index t added c.loop-item.start c.loop-item-test.false c.loop-item.invariant.adding
    (ap (λ js. overfills js t) (sym c.as_slice.ensures.value) ∙ c.in_err-add_unmerged.ensures.too_many_leaves (ap Err (sym p.2 ∙ fault)))

pub returns-clause-added : goal.returns-clause-added
returns-clause-added c =
    let t = c.loop-item.tree.tree in
    let u = c.add_unmerged.new.tree.tree in
    let added : List ℕ = c.loop-item.added.items in
    adding-all (after_adds (new_members c.args.items.now) c.args.tree.now.tree) c.args.items.now c.loop-item.item-index t added c.loop-item.start c.loop-item-test.false c.loop-item.invariant.adding
    u (ap (λ js. overfills js t) (sym c.as_slice.ensures.value) ∙ c.in_ok-add_unmerged.ensures.fits)
    (c.in_ok-add_unmerged.ensures.in_lists ∙ ap (λ js. add_all_unmerged js t) c.as_slice.ensures.value)
    ∙ ap (λ js. Some (applied_tree u js)) (sym c.new.ensures)
