use Rattle.std.proofs.Common.{vec_len}
use Rattle.mls_tree.specs.Tree.{Tree}
use Rattle.mls_index.specs.CredentialCounts.{HaveBase}
use Rattle.mls_index.proofs.credential_counts.CredentialCounts.revert.Given as goal

abbrev pub invariant-loop-index : goal.invariant-loop-index
invariant-loop-index l = (t : Tree) → HaveBase t l.initial.self → HaveBase t l.self

abbrev pub decreases-loop-index : goal.decreases-loop-index
decreases-loop-index l = vec_len l.self.replaced
