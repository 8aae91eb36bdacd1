use Rattle.mls_check.proofs.Repeats.{Walked}
use Rattle.mls_check.proofs.distinct_keys.first_repeated_by_set.Given as goal

abbrev pub invariant-loop-node_index : goal.invariant-loop-node_index
invariant-loop-node_index l = Walked l.tree.tree l.node_index l.later l.first

abbrev pub decreases-loop-node_index : goal.decreases-loop-node_index
decreases-loop-node_index l = l.node_index
