use Rattle.std.proofs.Common.{◌≡◌}
use Rattle.std.specs.List.{range_with_len}
use Rattle.mls_tree.specs.HashCache.{emptied}
use Rattle.mls_tree.proofs.hash_cache.Slots.clear_front.Given as goal

abbrev pub invariant-loop-node_index : goal.invariant-loop-node_index
invariant-loop-node_index l = record {
  slots : l.self.hashes.items ≡ emptied l.fn.self.hashes.items (range_with_len 0 l.node_index);
  kind : l.self.kind ≡ l.fn.self.kind;
}
