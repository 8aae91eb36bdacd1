use Rattle.mls_signatures.proofs.AddedLeaves.{Collecting}
use Rattle.mls_signatures.proofs.added_leaves.added_leaves.Given as goal

abbrev pub invariant-loop-item : goal.invariant-loop-item
invariant-loop-item l = Collecting l.entries l.items l.added l.item-index l.position l.leaves.items
