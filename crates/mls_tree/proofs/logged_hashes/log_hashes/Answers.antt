use Rattle.std.proofs.Common.{arith}
use Rattle.mls_tree.proofs.Numbers.{leaves_at-low}
use Rattle.mls_tree.proofs.logged_hashes.log_hashes.Goals as goal

pub log_from-requires-clause-inside : goal.log_from-requires-clause-inside
log_from-requires-clause-inside c = omega (arith, leaves_at-low c.height.result c.height.ensures.low)
