use Rattle.std.proofs.Common.{◌≡◌, ◌∙◌, ◌∷◌, rules, refl, sym}
use Rattle.std.proofs.lemmas.Bool.{false≢true}
use Rattle.std.proofs.lemmas.List.{nil_from_length}
use Rattle.mls_index.specs.NodeKeys.{IsUniqueKey}
use Rattle.mls_index.proofs.Meeting.{met-first, met-more, met-all, met-listed}
use Rattle.mls_index.proofs.tree_index.TreeIndex.have_unique_keys.Goals as goal

pub loop-node_index-init : goal.loop-node_index-init
loop-node_index-init c = λ covers. met-first (IsUniqueKey c.args.kind c.args.tree.now.tree) c.args.node_indices.now

pub loop-node_index-preserved : goal.loop-node_index-preserved
loop-node_index-preserved c = λ covers.
    let cut : c.loop-node_index.rest.now ≡ c.in-Some.node_index.now ∷ c.in-Some.tail.now = search rules in
    met-more (IsUniqueKey c.args.kind c.args.tree.now.tree) c.args.node_indices.now c.loop-node_index.rest.now c.in-Some.tail.now c.in-Some.node_index.now cut
    ((c.has_unique_key.ensures covers).0 c.if-not-has_unique_key.false) (c.loop-node_index.invariant covers)

pub returns-then-not-has_unique_key : goal.returns-then-not-has_unique_key
returns-then-not-has_unique_key c = λ covers.
    let cut : c.loop-node_index.rest.now ≡ c.in-Some.node_index.now ∷ c.in-Some.tail.now = search rules in
    let on = met-listed (IsUniqueKey c.args.kind c.args.tree.now.tree) c.args.node_indices.now c.loop-node_index.rest.now c.in-Some.tail.now c.in-Some.node_index.now cut (c.loop-node_index.invariant covers) in (
      λ no. absurd (false≢true no),
      λ own. absurd (false≢true (sym c.if-not-has_unique_key.true ∙ (c.has_unique_key.ensures covers).1 (own c.in-Some.node_index.now on))),
    )

pub returns : goal.returns
returns c = λ covers.
    let none = nil_from_length c.loop-node_index.rest.now c.in_default.ensures.cases in
    (λ _. met-all (IsUniqueKey c.args.kind c.args.tree.now.tree) c.args.node_indices.now c.loop-node_index.rest.now none (c.loop-node_index.invariant covers), λ _. refl)
