use Rattle.mls_index.specs.CredentialCountsInternal.{CountsFirst}
use Rattle.mls_index.proofs.credential_counts.CredentialCounts.fill.Given as goal

abbrev pub invariant-loop-index : goal.invariant-loop-index
invariant-loop-index l = CountsFirst l.tree.tree l.index l.self
