use Rattle.std.proofs.Common.{refl}
use Rattle.mls_c.specs.Messages.{Learns}
use Rattle.mls_c.proofs.group_follower.GroupFollower.learn.Goals as goal

pub returns-in-Err : goal.returns-in-Err
returns-in-Err c =
    Learns.runs_out c.learn_in_follower.ensures.first.0 c.if-not-are_whole.ensures.whole refl c.learn_in_follower.ensures.first.1 c.learn_in_follower.ensures.state
