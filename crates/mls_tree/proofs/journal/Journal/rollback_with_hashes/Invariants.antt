use Rattle.std.proofs.Common.{◌≡◌, vec_len}
use Rattle.mls_tree.specs.Journals.{before}
use Rattle.mls_tree.specs.LoggedHashes.{HasRightHashes}
use Rattle.mls_tree.proofs.journal.Journal.rollback_with_hashes.Given as goal

abbrev pub invariant-loop-entry : goal.invariant-loop-entry
invariant-loop-entry l = record {
  same_before : before l.self l.tree.tree ≡ before l.initial.self l.initial.tree.tree;
  hashes : HasRightHashes l.self l.tree.tree;
}

abbrev pub decreases-loop-entry : goal.decreases-loop-entry
decreases-loop-entry l = vec_len l.self.formers
