use Rattle.std.proofs.Common.{vec_len}
use Rattle.mls_index.proofs.hashed_keys.HashedKeys.revert.Given as goal

abbrev pub invariant-loop-node_index : goal.invariant-loop-node_index
invariant-loop-node_index l = Unit {0}

abbrev pub decreases-loop-node_index : goal.decreases-loop-node_index
decreases-loop-node_index l = vec_len l.self.staged
