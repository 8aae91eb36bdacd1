use Rattle.std.proofs.Common.{refl}
use Rattle.mls_msgs.proofs.MembersRead.{one_more_passes, end_passes}
use Rattle.mls_msgs.proofs.profile.check_list.Goals as goal

pub loop-body-preserved : goal.loop-body-preserved
loop-body-preserved c rest =
    let t = c.loop-body-test.ensures in
    let entry = c.in_ok-skip.ensures.read in
    c.loop-body.invariant (one_more_passes c.loop-body.body c.skip.new.reader entry.0 (λ e. let bad = t.1 e in absurd cc) entry.1 c.in_ok-check_entry.ensures rest)

pub returns : goal.returns
returns c = let t = c.loop-body-test.ensures in c.loop-body.invariant (end_passes c.loop-body.body (t.0 refl))
