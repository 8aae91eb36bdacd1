use Rattle.std.proofs.Common.{◌≡◌, ◌∷◌, ◌∙◌, None, rules, sym, ap, subst}
use Rattle.std.proofs.lemmas.List.{nil_from_length}
use Rattle.mls_index.specs.FirstChanged.{FindsFailingAt, leaf_rule, smaller}
use Rattle.mls_index.proofs.FirstFailing.{smaller-none, smaller-assoc, smaller-first, nothing-first}
use Rattle.mls_index.proofs.changed_leaves.first_changed_failing.Goals as goal

pub loop-node_index-preserved : goal.loop-node_index-preserved
loop-node_index-preserved g c =
    let test = leaf_rule (g.C.SignatureCheck.meaning c.args.rules.now.checker.now) c.args.rules.now.context.now c.args.rules.now.required.now c.args.rule in
    let t = c.args.tree.now.tree in
    let node_index = c.in-Some.node_index.now in
    let here = c.in_ok-failing_at.field-0 in
    let cut : c.loop-node_index.rest.now ≡ node_index ∷ c.in-Some.tail.now = search rules in
    λ p rest.
    subst (FindsFailingAt test c.args.node_indices.now t) (sym (smaller-assoc c.loop-node_index.found here p) ∙ sym (ap (λ o. smaller o p) c.smaller-found.ensures))
    (c.loop-node_index.invariant (smaller here p)
    (subst (λ ps. FindsFailingAt test ps t (smaller here p)) (sym cut) (smaller-first test t node_index c.in-Some.tail.now here p c.in_ok-failing_at.ensures rest)))

pub returns : goal.returns
returns g c =
    let test = leaf_rule (g.C.SignatureCheck.meaning c.args.rules.now.checker.now) c.args.rules.now.context.now c.args.rules.now.required.now c.args.rule in
    let t = c.args.tree.now.tree in
    let none = nil_from_length c.loop-node_index.rest.now c.in_default.ensures.cases in
    subst (FindsFailingAt test c.args.node_indices.now t) (smaller-none c.loop-node_index.found)
    (c.loop-node_index.invariant None (subst (λ ps. FindsFailingAt test ps t None) (sym none) (nothing-first test t)))
