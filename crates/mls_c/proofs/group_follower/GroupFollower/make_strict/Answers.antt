use Rattle.std.proofs.Common.{refl}
use Rattle.mls_c.proofs.AddingRules.{not_added}
use Rattle.mls_c.proofs.group_follower.GroupFollower.make_strict.Goals as goal

pub returns-in-Err : goal.returns-in-Err
returns-in-Err c =
    not_added c.args.asked _ _ _ c.in-Err.refused c.in-Err.ensures.refused c.added_verdict.ensures
    (record { state = c.in-Err.ensures.unchanged_on_error; receipts = rw c.in-Err.ensures.checker refl })
