use Rattle.mls_hash.specs.SuiteHash.{hash_of}
use Rattle.mls_hash.specs.SubtreeHashesInternal.{AreCachedHashes}
use Rattle.mls_hash.proofs.subtree_hashes.are_all_cached.Given as goal

abbrev pub invariant-loop-node_index : goal.invariant-loop-node_index
invariant-loop-node_index l = AreCachedHashes (hash_of l.suite) l.tree.tree l.node_index l.tree.slots
