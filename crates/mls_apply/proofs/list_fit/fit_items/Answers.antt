use Rattle.std.proofs.Common.{◌∙◌}
use Rattle.mls_apply.proofs.Outcomes.{without_adds-set, room_left, outcome-capacity}
use Rattle.mls_apply.proofs.list_fit.fit_items.Goals as goal

pub fit_adds-requires : goal.fit_adds-requires
fit_adds-requires c =
    room_left c.args.items.now c.args.tree.now.tree c.apply_updates.new.tree.tree c.apply_removes.new.tree.tree
    c.in_ok-apply_updates.ensures.updated c.in_ok-apply_removes.ensures.removed c.requires

pub returns-clause-fit : goal.returns-clause-fit
returns-clause-fit c =
    rw
    (outcome-capacity c.args.items.now c.args.tree.now.tree c.apply_updates.new.tree.tree c.apply_removes.new.tree.tree
    c.in_ok-apply_updates.ensures.updated c.in_ok-apply_removes.ensures.removed c.requires)
    c.fit_adds.ensures.fit

pub returns-clause-outline : goal.returns-clause-outline
returns-clause-outline c =
    rw
    (outcome-capacity c.args.items.now c.args.tree.now.tree c.apply_updates.new.tree.tree c.apply_removes.new.tree.tree
    c.in_ok-apply_updates.ensures.updated c.in_ok-apply_removes.ensures.removed c.requires)
    c.fit_adds.ensures.outline

pub returns-clause-too_many_leaves : goal.returns-clause-too_many_leaves
returns-clause-too_many_leaves c =
    let items = c.args.items.now in
    let t = c.args.tree.now.tree in
    let u = c.apply_updates.new.tree.tree in
    let v = c.apply_removes.new.tree.tree in
    let updated = c.in_ok-apply_updates.ensures.updated in
    let removed = c.in_ok-apply_removes.ensures.removed in
    λ mapped. (without_adds-set items t u v updated removed, outcome-capacity items t u v updated removed c.requires ∙ c.fit_adds.ensures.too_many_leaves mapped)
