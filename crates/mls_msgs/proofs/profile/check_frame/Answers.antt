use Rattle.std.proofs.lemmas.Result.{IfOk-weaker}
use Rattle.mls_msgs.proofs.MembersRead.{frame_of}
use Rattle.mls_msgs.proofs.profile.check_frame.Goals as goal

pub returns : goal.returns
returns c =
    let group_id = c.in_ok-skip.ensures.read in
    let epoch = c.in_ok-skip-2.ensures.read in
    let sender = c.in_ok-skip-3.ensures.read in
    let authenticated = c.in_ok-skip-4.ensures.read in
    IfOk-weaker c.check_content.result _ _
    (λ v h. frame_of c.args.reader c.skip.new.reader c.skip-2.new.reader c.skip-3.new.reader c.skip-4.new.reader group_id.0 epoch.0 sender.0 authenticated.0 group_id.1 epoch.1 sender.1 authenticated.1 h)
    c.check_content.ensures
