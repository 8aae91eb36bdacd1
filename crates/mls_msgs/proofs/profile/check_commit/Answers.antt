use Rattle.std.proofs.Common.{Ok}
use Rattle.std.proofs.lemmas.Result.{IfOk-weaker}
use Rattle.mls_wire.specs.ExactReads.{Gives-body}
use Rattle.mls_msgs.proofs.MembersRead.{commit_passes}
use Rattle.mls_msgs.proofs.profile.check_commit.Goals as goal

pub returns : goal.returns
returns c =
    let body = Gives-body c.args.reader c.read_sub.new.self (Ok c.in_ok-body.body) c.in_ok-body.ensures in
    IfOk-weaker c.check_list.result _ _ (λ v h. commit_passes c.args.reader c.read_sub.new.self c.in_ok-body.body body h) c.check_list.ensures
