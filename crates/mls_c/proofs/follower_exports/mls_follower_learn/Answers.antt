use Rattle.std.proofs.Common.{rules}
use Rattle.mls_c.proofs.Moving.{moves}
use Rattle.mls_c.proofs.follower_exports.mls_follower_learn.Goals as goal

pub returns-clause-learns : goal.returns-clause-learns
returns-clause-learns c = moves _ _ c.in-Some.open.value _ _ (search rules) c.put.ensures (rw c.deref_mut.ensures.value at c.learn-number.ensures)
