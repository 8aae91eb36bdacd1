use Rattle.std.proofs.Common.{ap, arith, ◌*◌, ◌∷◌}
use Rattle.mls_tree.specs.Paths.{direct_path}
use Rattle.mls_tree.specs.CacheModel.{slots_in}
use Rattle.mls_tree.proofs.Numbers.{leaves_at-low}
use Rattle.mls_tree.proofs.Emptying.{nothing-emptied}
use Rattle.mls_tree.proofs.cache_update.empty_leaf.Goals as goal

pub returns-in_default-clause-slots : goal.returns-in_default-clause-slots
returns-in_default-clause-slots c = λ t perfect high. nothing-emptied (slots_in c.args.slots.now) (2 * c.args.index ∷ direct_path 0 t c.args.index) (ap slots_in c.in_default.is)

pub overflow_mul-index : goal.overflow_mul-index
overflow_mul-index c = omega (arith, leaves_at-low c.args.level c.requires.low, c.requires.inside)

pub blank_path-requires-clause-inside : goal.blank_path-requires-clause-inside
blank_path-requires-clause-inside c = omega (arith, leaves_at-low c.args.level c.requires.low)
