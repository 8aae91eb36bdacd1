use Rattle.std.proofs.Common.{◌≡◌, drop}
use Rattle.mls_tree.specs.Journals.{before}
use Rattle.mls_tree.specs.LoggedHashes.{HasRightHashes}
use Rattle.mls_apply.specs.AppliedList.{after_removes}
use Rattle.mls_apply.proofs.Removing.{shrunk_if}
use Rattle.mls_apply.proofs.removes.apply_removes.Given as goal

abbrev pub invariant-loop-item : goal.invariant-loop-item
invariant-loop-item l = record {
  known : after_removes l.items l.initial.tree.tree ≡ after_removes (drop l.item-index l.items) (shrunk_if l.has_removed l.tree.tree);
  same_before : before l.journal l.tree.tree ≡ before l.initial.journal l.initial.tree.tree;
  hashes : HasRightHashes l.initial.journal l.initial.tree.tree → HasRightHashes l.journal l.tree.tree;
}
