use Rattle.std.proofs.Common.{◌∙◌, ◌+◌, Some, Err, drop, ap, sym, subst}
use Rattle.std.proofs.lemmas.Result.{err_from_is_err_and}
use Rattle.mls_tree.specs.Tree.{Tree}
use Rattle.mls_tree.specs.TreeOperations.{truncate}
use Rattle.mls_tree.specs.Journals.{before}
use Rattle.mls_tree.specs.LoggedHashes.{HasRightHashes}
use Rattle.mls_apply.specs.AppliedList.{after_removes}
use Rattle.mls_apply.specs.declared.list_item.ListItem.{ListItem}
use Rattle.mls_apply.proofs.Updating.{next_item}
use Rattle.mls_apply.proofs.Removing.{shrunk_if, removes-other, removes-set, removes-blank, removes-all}
use Rattle.mls_apply.proofs.removes.apply_removes.Goals.{in-Remove+in_ok-clear_leaf, in_default}
use Rattle.mls_apply.proofs.removes.apply_removes.Goals as goal

pub returns-in_err-clear_leaf-clause-no_such_leaf : goal.returns-in_err-clear_leaf-clause-no_such_leaf
returns-in_err-clear_leaf-clause-no_such_leaf c =
    let items = c.args.items.now in
    let x = c.item-item.result in
    let rest = drop (c.loop-item.item-index + 1) items in
    let t = c.loop-item.tree.tree in
    let removed = c.loop-item.has_removed in
    let known = c.loop-item.invariant.known ∙ ap (λ xs. after_removes xs (shrunk_if removed t)) (next_item items c.loop-item.item-index x c.loop-item-test.true c.item-item.is) in
    let p = err_from_is_err_and c.from_residual.result c.from_residual.ensures.1 in
    λ mapped.
    known ∙ removes-blank x rest removed t c.in-Remove.index (ap (λ (y : ListItem). y.proposal) (sym c.item.view_is) ∙ c.in-Remove.is) (c.in_err-clear_leaf.ensures.no_such_leaf (ap Err (sym p.2) ∙ sym p.1 ∙ mapped))

pub loop-item-preserved : goal.loop-item-preserved
loop-item-preserved c =
    let items = c.args.items.now in
    let x = c.item-item.result in
    let rest = drop (c.loop-item.item-index + 1) items in
    let t = c.loop-item.tree.tree in
    let removed = c.loop-item.has_removed in
    let known = c.loop-item.invariant.known ∙ ap (λ xs. after_removes xs (shrunk_if removed t)) (next_item items c.loop-item.item-index x c.loop-item-test.true c.item-item.is) in
    elim c.match-item.branch [
      | in-Remove+in_ok-clear_leaf w ↦
          record {
            known =
                known
                ∙ removes-set x rest removed t w.in-Remove.index (ap (λ (y : ListItem). y.proposal) (sym c.item.view_is) ∙ w.in-Remove.is) w.in_ok-clear_leaf.ensures.set
                ∙ ap (λ (v : Tree). after_removes rest (truncate v)) (sym w.in_ok-clear_leaf.ensures.cleared)
                ∙ sym (λ k. after_removes rest (shrunk_if (w.has_removed-is k) (w.tree-is k).tree));
            same_before = (λ k. before (w.journal-is k) (w.tree-is k).tree) ∙ w.clear_leaf.ensures.before ∙ c.loop-item.invariant.same_before;
            hashes = λ all. subst (λ v. v) (sym (λ k. HasRightHashes (w.journal-is k) (w.tree-is k).tree)) (w.clear_leaf.ensures.hashes (c.loop-item.invariant.hashes all));
          }
      | in_default w ↦
          record {
            known =
                known
                ∙ removes-other x rest (shrunk_if removed t) (λ i e. w.in_default.not-Remove i (ap (λ (y : ListItem). y.proposal) c.item.view_is ∙ e))
                ∙ sym (λ k. after_removes rest (shrunk_if (w.has_removed-is k) (w.tree-is k).tree));
            same_before = (λ k. before (w.journal-is k) (w.tree-is k).tree) ∙ c.loop-item.invariant.same_before;
            hashes = λ all. subst (λ v. v) (sym (λ k. HasRightHashes (w.journal-is k) (w.tree-is k).tree)) (c.loop-item.invariant.hashes all);
          }
    ]

pub returns-in_ok-truncate-clause-removed : goal.returns-in_ok-truncate-clause-removed
returns-in_ok-truncate-clause-removed c =
    let t = c.loop-item.tree.tree in
    c.loop-item.invariant.known
    ∙ removes-all c.args.items.now c.loop-item.item-index (shrunk_if c.loop-item.has_removed t) c.loop-item-test.false
    ∙ ap (λ b. Some (shrunk_if b t)) c.if-has_removed.true
    ∙ ap (λ (v : Tree). Some v) (sym c.in_ok-truncate.ensures.shrunk)

pub returns-else-has_removed-clause-removed : goal.returns-else-has_removed-clause-removed
returns-else-has_removed-clause-removed c =
    let t = c.loop-item.tree.tree in
    c.loop-item.invariant.known
    ∙ removes-all c.args.items.now c.loop-item.item-index (shrunk_if c.loop-item.has_removed t) c.loop-item-test.false
    ∙ ap (λ b. Some (shrunk_if b t)) c.if-has_removed.false
