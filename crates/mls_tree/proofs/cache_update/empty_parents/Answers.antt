use Rattle.std.proofs.Common.{ap, arith}
use Rattle.mls_tree.specs.HashCache.{parents_from}
use Rattle.mls_tree.specs.CacheModel.{slots_in}
use Rattle.mls_tree.proofs.Numbers.{leaves_at-low}
use Rattle.mls_tree.proofs.Emptying.{nothing-emptied}
use Rattle.mls_tree.proofs.cache_update.empty_parents.Goals as goal

pub returns-in_default-clause-slots : goal.returns-in_default-clause-slots
returns-in_default-clause-slots c = λ t perfect high. nothing-emptied (slots_in c.args.slots.now) (parents_from 0 t c.args.node_index) (ap slots_in c.in_default.is)

pub clear_from-requires-clause-inside : goal.clear_from-requires-clause-inside
clear_from-requires-clause-inside c = omega (arith, leaves_at-low c.args.level c.requires.low)
