use Rattle.std.proofs.Common.{◌≡◌, drop}
use Rattle.mls_tree.specs.Journals.{before}
use Rattle.mls_tree.specs.LoggedHashes.{HasRightHashes}
use Rattle.mls_apply.specs.AppliedList.{after_adds, new_members}
use Rattle.mls_apply.proofs.Adding.{Adding}
use Rattle.mls_apply.proofs.adds.apply_adds.Given as goal

abbrev pub invariant-loop-item : goal.invariant-loop-item
invariant-loop-item l = record {
  adding : Adding (after_adds (new_members l.items) l.initial.tree.tree) (drop l.item-index l.items) l.tree.tree l.added.items l.start;
  same_before : before l.journal l.tree.tree ≡ before l.initial.journal l.initial.tree.tree;
  hashes : HasRightHashes l.initial.journal l.initial.tree.tree → HasRightHashes l.journal l.tree.tree;
}
