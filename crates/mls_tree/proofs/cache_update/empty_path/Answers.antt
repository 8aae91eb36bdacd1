use Rattle.std.proofs.Common.{ap, arith}
use Rattle.mls_tree.specs.Paths.{direct_path}
use Rattle.mls_tree.specs.CacheModel.{slots_in}
use Rattle.mls_tree.proofs.Numbers.{leaves_at-low}
use Rattle.mls_tree.proofs.Emptying.{nothing-emptied}
use Rattle.mls_tree.proofs.cache_update.empty_path.Goals as goal

pub returns-in_default-clause-slots : goal.returns-in_default-clause-slots
returns-in_default-clause-slots c = λ t perfect high. nothing-emptied (slots_in c.args.slots.now) (direct_path 0 t c.args.index) (ap slots_in c.in_default.is)

pub blank_path-requires-clause-inside : goal.blank_path-requires-clause-inside
blank_path-requires-clause-inside c = omega (arith, leaves_at-low c.args.level c.requires.low)
