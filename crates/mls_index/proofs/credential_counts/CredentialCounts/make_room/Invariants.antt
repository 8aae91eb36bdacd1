use Rattle.std.proofs.Common.{◌-◌, length}
use Rattle.mls_tree.specs.Tree.{Tree}
use Rattle.mls_index.specs.CredentialCounts.{AreCountsOf}
use Rattle.mls_index.proofs.credential_counts.CredentialCounts.make_room.Given as goal

abbrev pub invariant-loop-self : goal.invariant-loop-self
invariant-loop-self l = (t : Tree) → AreCountsOf t l.initial.self → AreCountsOf t l.self

abbrev pub decreases-loop-self : goal.decreases-loop-self
decreases-loop-self l = l.count - length l.self.classes.list.items
