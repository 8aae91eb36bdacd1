use Rattle.std.proofs.Common.{◌∙◌}
use Rattle.mls_apply.proofs.Outcomes.{without_adds-set, room_left, outcome-capacity}
use Rattle.mls_apply.proofs.list_application.apply_items.Goals as goal

pub apply_adds-requires : goal.apply_adds-requires
apply_adds-requires c =
    room_left c.args.items.now c.args.tree.now.tree c.apply_updates.new.tree.tree c.apply_removes.new.tree.tree
    c.in_ok-apply_updates.ensures.updated c.in_ok-apply_removes.ensures.removed c.requires

pub returns-clause-applied : goal.returns-clause-applied
returns-clause-applied c =
    rw
    (outcome-capacity c.args.items.now c.args.tree.now.tree c.apply_updates.new.tree.tree c.apply_removes.new.tree.tree
    c.in_ok-apply_updates.ensures.updated c.in_ok-apply_removes.ensures.removed c.requires)
    c.apply_adds.ensures.added

pub returns-clause-too_many_leaves : goal.returns-clause-too_many_leaves
returns-clause-too_many_leaves c =
    let items = c.args.items.now in
    let t = c.args.tree.now.tree in
    let u = c.apply_updates.new.tree.tree in
    let v = c.apply_removes.new.tree.tree in
    let updated = c.in_ok-apply_updates.ensures.updated in
    let removed = c.in_ok-apply_removes.ensures.removed in
    λ mapped. (without_adds-set items t u v updated removed, outcome-capacity items t u v updated removed c.requires ∙ c.apply_adds.ensures.too_many_leaves mapped)
