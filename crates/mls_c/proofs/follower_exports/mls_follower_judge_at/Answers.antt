use Rattle.std.proofs.Common.{rules}
use Rattle.mls_c.proofs.Moving.{moves}
use Rattle.mls_c.proofs.follower_exports.mls_follower_judge_at.Goals as goal

pub returns-clause-judges : goal.returns-clause-judges
returns-clause-judges c = moves _ _ c.in-Some.open.value _ _ (search rules) c.put.ensures (rw c.deref_mut.ensures.value at c.judge-judgement.ensures)
