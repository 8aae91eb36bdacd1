use Rattle.std.proofs.Common.{arith}
use Rattle.mls_tree.proofs.Numbers.{leaves_at-low}
use Rattle.mls_tree.proofs.node_array.NodeArray.new_parents.Goals as goal

pub push_new_parents-requires-clause-inside : goal.push_new_parents-requires-clause-inside
push_new_parents-requires-clause-inside c = omega (arith, leaves_at-low c.self.inside.height c.self.inside.low)
