use Rattle.std.proofs.Common.{◌≡◌, drop}
use Rattle.mls_tree.specs.Paths.{unmerged_node_indices, count_not_in}
use Rattle.mls_tree.specs.Subtraction.{taken_off}
use Rattle.mls_tree.proofs.resolution_len.take_unmerged.Given as goal

abbrev pub invariant-loop-leaf : goal.invariant-loop-leaf
invariant-loop-leaf l =
    taken_off l.fn.left (count_not_in l.without (unmerged_node_indices l.leaves l.unmerged))
    ≡ taken_off l.left (count_not_in l.without (unmerged_node_indices l.leaves (drop l.leaf-index l.unmerged)))
