use Rattle.std.proofs.Common.{length}
use Rattle.mls_index.specs.KeyTableInternal.{IsSettling}
use Rattle.mls_index.proofs.key_table.KeyTable.settle.Given as goal

abbrev pub invariant-loop-node_index : goal.invariant-loop-node_index
invariant-loop-node_index l = IsSettling l.kind l.tree.tree l.node_indices l.initial.self → IsSettling l.kind l.tree.tree l.rest l.self

abbrev pub decreases-loop-node_index : goal.decreases-loop-node_index
decreases-loop-node_index l = length l.rest
