use Rattle.mls_signatures.proofs.FreshLeaves.{HasOthers}
use Rattle.mls_signatures.proofs.fresh_leaf_signatures.other_indices.Given as goal

abbrev pub invariant-loop-leaf : goal.invariant-loop-leaf
invariant-loop-leaf l = HasOthers l.leaves l.leaf-index l.others
