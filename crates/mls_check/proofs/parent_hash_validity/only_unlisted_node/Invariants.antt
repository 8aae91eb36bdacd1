use Rattle.std.proofs.Common.{take}
use Rattle.mls_check.proofs.Lone.{LoneIn}
use Rattle.mls_check.proofs.Walks.{IsLeft, LeavesOf}
use Rattle.mls_check.proofs.parent_hash_validity.only_unlisted_node.Given as goal

abbrev pub invariant-loop-node_index : goal.invariant-loop-node_index
invariant-loop-node_index l = LoneIn l.list (take l.node_index-index l.node_indices) l.lone × IsLeft (LeavesOf l.node_indices l.node_index-index) l.list l.rest
