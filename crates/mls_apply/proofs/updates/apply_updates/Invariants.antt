use Rattle.std.proofs.Common.{◌≡◌, drop}
use Rattle.mls_tree.specs.Journals.{before}
use Rattle.mls_tree.specs.LoggedHashes.{HasRightHashes}
use Rattle.mls_apply.specs.LastUpdates.{AreApplied}
use Rattle.mls_apply.proofs.updates.apply_updates.Given as goal

abbrev pub invariant-loop-index : goal.invariant-loop-index
invariant-loop-index l = record {
  known : AreApplied (drop l.index l.items) l.initial.tree.tree l.replaced l.tree.tree;
  same_before : before l.journal l.tree.tree ≡ before l.initial.journal l.initial.tree.tree;
  hashes : HasRightHashes l.initial.journal l.initial.tree.tree → HasRightHashes l.journal l.tree.tree;
}
