use Rattle.std.proofs.Common.{◌≡◌, ◌∷◌, ◌∙◌, None, rules, sym, ap, subst}
use Rattle.std.proofs.lemmas.List.{nil_from_length}
use Rattle.mls_index.specs.FirstChanged.{smaller}
use Rattle.mls_index.specs.RepeatedKeys.{FindsRepeatedAt}
use Rattle.mls_index.proofs.FirstFailing.{smaller-none, smaller-assoc}
use Rattle.mls_index.proofs.Repeating.{repeated-more, repeated-nothing}
use Rattle.mls_index.proofs.tree_index.TreeIndex.first_repeated_key.Goals as goal

pub loop-node_index-preserved : goal.loop-node_index-preserved
loop-node_index-preserved c =
    let t = c.args.tree.now.tree in
    let node_index = c.in-Some.node_index.now in
    let here = c.repeated_at.result in
    let cut : c.loop-node_index.rest.now ≡ node_index ∷ c.in-Some.tail.now = search rules in
    λ covers p rest.
    subst (FindsRepeatedAt c.args.node_indices.now t) (sym (smaller-assoc c.loop-node_index.found here p) ∙ sym (ap (λ o. smaller o p) c.smaller-found.ensures))
    (c.loop-node_index.invariant covers (smaller here p)
    (subst (λ ps. FindsRepeatedAt ps t (smaller here p)) (sym cut) (repeated-more t node_index c.in-Some.tail.now here p (c.repeated_at.ensures covers) rest)))

pub returns : goal.returns
returns c = λ covers.
    let t = c.args.tree.now.tree in
    let none = nil_from_length c.loop-node_index.rest.now c.in_default.ensures.cases in
    subst (FindsRepeatedAt c.args.node_indices.now t) (smaller-none c.loop-node_index.found)
    (c.loop-node_index.invariant covers None (subst (λ ps. FindsRepeatedAt ps t None) (sym none) (repeated-nothing t)))
