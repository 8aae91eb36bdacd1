use Rattle.std.proofs.Common.{drop}
use Rattle.mls_apply.specs.AppliedList.{after_adds, new_members}
use Rattle.mls_apply.proofs.FoundLeaves.{Finding}
use Rattle.mls_apply.proofs.adds.fit_adds.Given as goal

abbrev pub invariant-loop-item : goal.invariant-loop-item
invariant-loop-item l = Finding (after_adds (new_members l.items) l.tree.tree) (drop l.item-index l.items) l.tree.tree l.added.items l.start
