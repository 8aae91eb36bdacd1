use Rattle.std.proofs.Common.{◌≡◌, ◌++◌, take}
use Rattle.mls_tree.specs.Paths.{unmerged_node_indices}
use Rattle.mls_tree.proofs.resolution.push_unmerged.Given as goal

abbrev pub invariant-loop-leaf : goal.invariant-loop-leaf
invariant-loop-leaf l = l.out.items ≡ l.fn.out.items ++ unmerged_node_indices l.leaves (take l.leaf-index l.unmerged)
