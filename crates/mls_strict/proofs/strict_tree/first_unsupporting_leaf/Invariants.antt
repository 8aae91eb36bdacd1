use Rattle.mls_strict.specs.StrictTreesInternal.{HoldsBelow, node_supports}
use Rattle.mls_strict.proofs.strict_tree.first_unsupporting_leaf.Given as goal

abbrev pub invariant-loop-node_index : goal.invariant-loop-node_index
invariant-loop-node_index l = HoldsBelow (node_supports l.required) l.tree.tree l.node_index
