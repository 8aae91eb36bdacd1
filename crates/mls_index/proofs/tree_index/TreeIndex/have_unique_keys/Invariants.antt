use Rattle.std.proofs.Common.{length}
use Rattle.mls_index.specs.NodeKeys.{IsUniqueKey}
use Rattle.mls_index.specs.TreeIndex.{ContainsKeysOf}
use Rattle.mls_index.proofs.Meeting.{AreMet}
use Rattle.mls_index.proofs.tree_index.TreeIndex.have_unique_keys.Given as goal

abbrev pub invariant-loop-node_index : goal.invariant-loop-node_index
invariant-loop-node_index l = ContainsKeysOf l.tree.tree l.self → AreMet (IsUniqueKey l.kind l.tree.tree) l.node_indices l.rest

abbrev pub decreases-loop-node_index : goal.decreases-loop-node_index
decreases-loop-node_index l = length l.rest
