use Rattle.std.proofs.Common.{arith}
use Rattle.mls_tree.proofs.Numbers.{leaves_at-low}
use Rattle.mls_tree.proofs.hash_cache.Slots.put_front.Goals as goal

pub blank_path-requires-clause-inside : goal.blank_path-requires-clause-inside
blank_path-requires-clause-inside c = omega (arith, leaves_at-low c.args.level c.requires.low)
