use Rattle.mls_follow.proofs.ResumedOrNot.{some_resumption}
use Rattle.mls_follow.proofs.laws.resumptions_exist.Goals as goal

pub returns : goal.returns
returns c = some_resumption
