use Rattle.mls_follow.specs.CoveredLogs.{all_good}
use Rattle.mls_start.proofs.Starting.{says_unread}
use Rattle.mls_start.proofs.trusting_start.trusting_start.Goals as goal

pub returns-in-Ok-clause-starts : goal.returns-in-Ok-clause-starts
returns-in-Ok-clause-starts c = c.trust_decoded.ensures.starts _ _ c.in-Ok.ensures.read

pub returns-in-Ok-clause-refused : goal.returns-in-Ok-clause-refused
returns-in-Ok-clause-refused c = c.trust_decoded.ensures.refused _ _ c.in-Ok.ensures.read

pub returns-in-Err-clause-refused : goal.returns-in-Err-clause-refused
returns-in-Err-clause-refused c = says_unread _ _ _ _ all_good c.in-Err.failure c.in-Err.ensures.unread
