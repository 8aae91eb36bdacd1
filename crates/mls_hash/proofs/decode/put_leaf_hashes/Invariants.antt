use Rattle.std.proofs.Common.{◌≡◌, Some}
use Rattle.mls_hash.specs.SuiteHash.{kind_of}
use Rattle.mls_hash.proofs.decode.put_leaf_hashes.Given as goal

abbrev pub invariant-loop-index : goal.invariant-loop-index
invariant-loop-index l = record {
  tree : l.tree.tree ≡ l.fn.tree.tree;
  kind : l.tree.kind ≡ Some (kind_of l.fn.suite);
}
