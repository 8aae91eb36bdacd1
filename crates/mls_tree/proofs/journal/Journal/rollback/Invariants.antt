use Rattle.std.proofs.Common.{◌≡◌, vec_len}
use Rattle.mls_tree.specs.Journals.{before}
use Rattle.mls_tree.proofs.journal.Journal.rollback.Given as goal

abbrev pub invariant-loop-former : goal.invariant-loop-former
invariant-loop-former l = before l.self l.tree.tree ≡ before l.initial.self l.initial.tree.tree

abbrev pub decreases-loop-former : goal.decreases-loop-former
decreases-loop-former l = vec_len l.self.formers
