use Rattle.mls_signatures.specs.AddedLeaves.{AppendsSignatures}
use Rattle.mls_signatures.proofs.LeafLists.{signatures_below}
use Rattle.mls_signatures.proofs.push_signatures.push_tree_signatures.Given as goal

abbrev pub invariant-loop-index : goal.invariant-loop-index
invariant-loop-index l =
    AppendsSignatures l.initial.list (signatures_below l.context.cipher_suite l.context.group_id l.tree.tree l.index) l.list
