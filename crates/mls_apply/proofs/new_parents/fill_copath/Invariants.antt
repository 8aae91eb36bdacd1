use Rattle.std.proofs.Common.{◌≡◌}
use Rattle.mls_apply.proofs.new_parents.fill_copath.Given as goal

abbrev pub invariant-loop-node_index : goal.invariant-loop-node_index
invariant-loop-node_index l = l.tree.tree ≡ l.initial.tree.tree
