use Rattle.std.proofs.Common.{rules}
use Rattle.mls_c.proofs.Moving.{moves}
use Rattle.mls_c.proofs.follower_exports.mls_follower_query.Goals as goal

pub returns-clause-queries : goal.returns-clause-queries
returns-clause-queries c = moves _ _ c.in-Some.open.value _ _ (search rules) c.put.ensures (search rules)
