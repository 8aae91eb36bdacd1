use Rattle.std.proofs.Common.{◌≡◌, ◌∙◌, ◌+◌, ◌-◌, ◌<◌, ◌∷◌, drop, length, Err, refl, ap, sym, subst, arith}
use Rattle.std.proofs.lemmas.List.{drop_all}
use Rattle.std.proofs.lemmas.Result.{err_from_is_err_and}
use Rattle.mls_apply.specs.AppliedList.{after_updates}
use Rattle.mls_apply.specs.LastUpdates.{AreApplied}
use Rattle.mls_apply.proofs.Updating.{next_item}
use Rattle.mls_apply.proofs.LastUpdates.{applied-start, none-before}
use Rattle.mls_apply.proofs.updates.apply_updates.Goals as goal

pub loop-index-init : goal.loop-index-init
loop-index-init c = record {
  known =
      subst (λ xs. AreApplied xs c.args.tree.now.tree c.new-replaced.result c.args.tree.now.tree) (sym (drop_all (length c.args.items.now) c.args.items.now (omega arith)))
      (applied-start c.args.tree.now.tree c.new-replaced.result c.new-replaced.ensures.empty);
  same_before = refl;
  hashes = λ all. all;
}

pub returns-in_err-apply_update-clause-no_such_leaf : goal.returns-in_err-apply_update-clause-no_such_leaf
returns-in_err-apply_update-clause-no_such_leaf c =
    let items = c.args.items.now in
    let t = c.args.tree.now.tree in
    let i = c.loop-index.index - 1 in
    let x = c.index-items-index.result in
    let next : i + 1 ≡ c.loop-index.index = omega (arith, c.loop-index-test.true) in
    let inside : i < length items = omega (arith, c.loop-index-test.true, c.loop-index.auto.index) in
    let p = err_from_is_err_and c.from_residual.result c.from_residual.ensures.1 in
    λ mapped.
    none-before i items t
    (ap (λ xs. after_updates xs t) (next_item items i x inside c.index-items-index.is ∙ ap (λ k. x ∷ drop k items) next)
    ∙ c.in_err-apply_update.ensures.no_such_leaf (ap Err (sym p.2) ∙ sym p.1 ∙ mapped) (drop c.loop-index.index items) t c.loop-index.invariant.known)
