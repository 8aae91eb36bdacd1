use Rattle.std.proofs.Common.{◌≡◌, ℕ, ◌<◌, true}
use Rattle.mls_index.specs.LeafCredentials.{class_at}
use Rattle.mls_index.specs.LeafCredentialsInternal.{lacks_used}
use Rattle.mls_index.proofs.leaf_credentials.CountedClasses.first_lacking.Given as goal

abbrev pub invariant-loop-index : goal.invariant-loop-index
invariant-loop-index l = (j : ℕ) → j < l.index → ¬ (lacks_used l.self.list.items (class_at l.self.list.items j) ≡ true)
