use Rattle.std.proofs.Common.{◌∙◌, ◌++◌, ◌∷◌, ℕ, [], append-nil, cond, get_or, refl, sym, ap}
use Rattle.std.specs.BTreeSet.{contains}
use Rattle.std.specs.Ordering.{nat_cmp}
use Rattle.std.specs.Prelude.{filter}
use Rattle.std.proofs.lemmas.List.Elements.{filter-append}
use Rattle.mls_signatures.proofs.LeafLists.{walked-all, walked-next}
use Rattle.mls_signatures.proofs.fresh_leaf_signatures.push_contained.Goals.{then-contains+in_ok-push, else-contains}
use Rattle.mls_signatures.proofs.fresh_leaf_signatures.push_contained.Goals as goal

pub loop-index-preserved : goal.loop-index-preserved
loop-index-preserved c =
    let p = contains nat_cmp c.args.others.now in
    let js = c.args.places.now in
    let i = c.loop-index.index-index in
    let old = c.loop-index.kept.items in
    let j = get_or js i 0 in
    walked-next (filter p) (λ k. filter p (k ∷ [])) (λ k ks. filter-append p (k ∷ []) ks) refl js (c.args.kept.now.items ++ filter p js)
    i old c.loop-index.invariant j 0 c.loop-index-test.true refl c.if-contains.kept.items
    (elim c.if-contains.branch [
      | then-contains+in_ok-push w ↦
          rw w.kept-is (w.in_ok-push.ensures.items ∙ ap (λ b. old ++ cond b (j ∷ []) []) (sym (sym c.contains.ensures ∙ w.if-contains.true)))
      | else-contains w ↦
          rw w.kept-is (sym (append-nil old) ∙ ap (λ b. old ++ cond b (j ∷ []) []) (sym (sym c.contains.ensures ∙ w.if-contains.false)))
    ])

pub returns : goal.returns
returns c =
    let p = contains nat_cmp c.args.others.now in
    walked-all (filter p) (λ (k : ℕ). filter p (k ∷ [])) (λ k ks. filter-append p (k ∷ []) ks) refl c.args.places.now (c.args.kept.now.items ++ filter p c.args.places.now)
    c.loop-index.index-index c.loop-index.kept.items c.loop-index.invariant c.loop-index-test.false
