use Rattle.mls_signatures.proofs.KeptInPlace.{Keeps}
use Rattle.mls_signatures.proofs.duplicates.keep_marked.Given as goal

abbrev pub invariant-loop-at : goal.invariant-loop-at
invariant-loop-at l = Keeps l.initial.list.items l.marks l.at l.kept l.list.items
