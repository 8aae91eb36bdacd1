use Rattle.std.proofs.Common.{◌++◌, drop}
use Rattle.mls_signatures.specs.AddedLeaves.{AppendsSignatures}
use Rattle.mls_signatures.proofs.FreshLeaves.{of_others}
use Rattle.mls_signatures.proofs.fresh_leaf_signatures.push_other_leaf_signatures.Given as goal

abbrev pub invariant-loop-leaf : goal.invariant-loop-leaf
invariant-loop-leaf l =
    AppendsSignatures l.initial.list (of_others l.context.cipher_suite l.context.group_id l.leaves)
    (l.list ++ of_others l.context.cipher_suite l.context.group_id (drop l.leaf-index l.leaves))
