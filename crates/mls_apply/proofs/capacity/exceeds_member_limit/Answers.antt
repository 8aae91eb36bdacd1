use Rattle.std.proofs.Common.{arith}
use Rattle.mls_apply.proofs.LackingRoom.{members_low}
use Rattle.mls_apply.proofs.capacity.exceeds_member_limit.Goals as goal

pub returns-then-added-removed : goal.returns-then-added-removed
returns-then-added-removed c =
    let low = members_low c.args.tree.now.tree c.args.tree.now.shape in
    (λ never. absurd (cc), λ h. absurd (omega (arith, h, c.if-added-removed.true, c.add_count-added.ensures, c.remove_count-removed.ensures)))

pub overflow_sub-result-2 : goal.overflow_sub-result-2
overflow_sub-result-2 c = omega (arith, c.member_count-members.ensures, members_low c.args.tree.now.tree c.args.tree.now.shape)
