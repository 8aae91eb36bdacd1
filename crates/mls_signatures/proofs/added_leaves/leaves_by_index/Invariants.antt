use Rattle.mls_signatures.proofs.AddedLeaves.{Mapping}
use Rattle.mls_signatures.proofs.added_leaves.leaves_by_index.Given as goal

abbrev pub invariant-loop-leaf : goal.invariant-loop-leaf
invariant-loop-leaf l = Mapping l.leaves l.leaf-index l.by_index
