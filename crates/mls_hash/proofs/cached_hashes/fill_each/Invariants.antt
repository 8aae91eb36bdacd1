use Rattle.std.proofs.Common.{◌≡◌, ◌<◌, ℕ}
use Rattle.mls_hash.specs.FilledCache.{HasCachedHash}
use Rattle.mls_hash.proofs.cached_hashes.fill_each.Given as goal

abbrev pub invariant-loop-node_index : goal.invariant-loop-node_index
invariant-loop-node_index l = record {
  tree : l.tree.tree ≡ l.fn.tree.tree;
  kind : l.tree.kind ≡ l.fn.tree.kind;
  filled : (p : ℕ) → p < l.node_index → HasCachedHash l.tree.slots p;
}
