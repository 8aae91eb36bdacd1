use Rattle.mls_strict.specs.StrictTrees.{tree_node_meets}
use Rattle.mls_strict.specs.StrictTreesInternal.{HoldsBelow}
use Rattle.mls_strict.proofs.strict_tree.first_failing_node.Given as goal

abbrev pub invariant-loop-node_index : goal.invariant-loop-node_index
invariant-loop-node_index l = HoldsBelow (tree_node_meets l.context l.rule) l.tree.tree l.node_index
