use Rattle.std.proofs.Common.{◌≡◌, ◌∷◌, rules, refl, subst}
use Rattle.std.proofs.lemmas.List.{nil_from_length}
use Rattle.mls_index.specs.KeyTableInternal.{ContainsKeysBut}
use Rattle.mls_index.proofs.KeyTables.{adds-nothing, adds-since, covers-all}
use Rattle.mls_index.proofs.key_table.KeyTable.stage.Goals as goal

pub loop-node_index-init : goal.loop-node_index-init
loop-node_index-init c = record {
  between = λ t h. h;
  covers = λ h. h;
  numbers = adds-nothing c.args.kind c.args.tree.now.tree c.args.self.now c.args.self.now refl refl;
}

pub loop-node_index-preserved : goal.loop-node_index-preserved
loop-node_index-preserved c =
    let kind = c.args.kind in
    let t = c.args.tree.now.tree in
    let before = c.loop-node_index.invariant in
    let cut : c.loop-node_index.rest.now ≡ c.in-Some.node_index.now ∷ c.in-Some.tail.now = search rules in
    record {
      between = λ old h. c.stage_at.ensures.index_base old (before.between old h);
      covers = λ h. c.in_ok-stage_at.ensures.index_contains_keys c.in-Some.tail.now (subst (λ ps. ContainsKeysBut ps kind t c.loop-node_index.self) cut (before.covers h));
      numbers = adds-since kind t c.args.self.now c.loop-node_index.self c.stage_at.new.self before.numbers c.stage_at.ensures.numbers;
    }

pub returns-in_err-stage_at-clause-index_base : goal.returns-in_err-stage_at-clause-index_base
returns-in_err-stage_at-clause-index_base c = λ t h. c.stage_at.ensures.index_base t (c.loop-node_index.invariant.between t h)

pub returns-in_err-stage_at-clause-numbers : goal.returns-in_err-stage_at-clause-numbers
returns-in_err-stage_at-clause-numbers c =
    adds-since c.args.kind c.args.tree.now.tree c.args.self.now c.loop-node_index.self c.stage_at.new.self c.loop-node_index.invariant.numbers c.stage_at.ensures.numbers

pub returns-clause-index_contains_keys : goal.returns-clause-index_contains_keys
returns-clause-index_contains_keys c = λ old had same.
    let kind = c.args.kind in
    let t = c.args.tree.now.tree in
    covers-all kind t old c.args.node_indices.now c.args.self.now c.loop-node_index.self had same
    (λ h. subst (λ ps. ContainsKeysBut ps kind t c.loop-node_index.self) (nil_from_length c.loop-node_index.rest.now c.in_default.ensures.cases) (c.loop-node_index.invariant.covers h))
