use Rattle.std.proofs.Common.{◌≡◌, length}
use Rattle.mls_tree.specs.Tree.{Tree}
use Rattle.mls_index.specs.CredentialCounts.{HaveBase}
use Rattle.mls_index.specs.CredentialCountsInternal.{CountBut, HasCapacityFor}
use Rattle.mls_index.proofs.credential_counts.CredentialCounts.insert_all.Given as goal

abbrev pub invariant-loop-node_index : goal.invariant-loop-node_index
invariant-loop-node_index l = record {
  between : (t : Tree) → HaveBase t l.initial.self → HaveBase t l.self;
  counts : HasCapacityFor l.tree.tree l.initial.self → CountBut l.node_indices l.tree.tree l.initial.self → CountBut l.rest l.tree.tree l.self;
  capacity : length l.self.classes.list.items ≡ length l.initial.self.classes.list.items;
}

abbrev pub decreases-loop-node_index : goal.decreases-loop-node_index
decreases-loop-node_index l = length l.rest
