use Rattle.std.proofs.Common.{drop}
use Rattle.mls_tree.proofs.ChangedNodeIndices.{AreListedOf}
use Rattle.mls_tree.proofs.journal.Journal.changed_node_indices.Given as goal

abbrev pub invariant-loop-index : goal.invariant-loop-index
invariant-loop-index l = AreListedOf (drop l.index l.formers) l.tree.tree l.node_indices.items l.leaves
