use Rattle.std.proofs.Common.{sym, ◌∙◌}
use Rattle.mls_apply.proofs.LackingRoom.{removed_low, room_lacking, lacking_room}
use Rattle.mls_apply.proofs.capacity.exceeds_capacity.Goals as goal

pub returns-then-not-exceeds_member_limit : goal.returns-then-not-exceeds_member_limit
returns-then-not-exceeds_member_limit c =
    (λ never. absurd (cc), λ h. sym c.if-not-exceeds_member_limit.true ∙ c.exceeds_member_limit.ensures.1 (lacking_room c.args.items.now c.args.tree.now.tree h).0)

pub returns-then-not-are_targets_non_blank : goal.returns-then-not-are_targets_non_blank
returns-then-not-are_targets_non_blank c =
    (λ never. absurd (cc), λ h. sym c.if-not-are_targets_non_blank.true ∙ c.are_targets_non_blank.ensures ∙ (lacking_room c.args.items.now c.args.tree.now.tree h).1)

pub is_removed_once-requires : goal.is_removed_once-requires
is_removed_once-requires c =
    removed_low c.args.items.now c.args.tree.now.tree c.args.tree.now.shape (sym c.are_targets_non_blank.ensures ∙ c.if-not-are_targets_non_blank.false)

pub returns : goal.returns
returns c =
    let items = c.args.items.now in
    let t = c.args.tree.now.tree in
    let many = c.exceeds_member_limit.ensures.0 c.if-not-exceeds_member_limit.false in
    let all = sym c.are_targets_non_blank.ensures ∙ c.if-not-are_targets_non_blank.false in
    (λ once. room_lacking items t many all (sym c.is_removed_once.ensures ∙ once), λ h. c.is_removed_once.ensures ∙ (lacking_room items t h).2)
