use Rattle.mls_check.specs.LeafValidation.{supports_used_credentials}
use Rattle.mls_check.proofs.Leaves.{HoldsBelow}
use Rattle.mls_check.proofs.credential_types.first_unsupported_credential.Given as goal

abbrev pub invariant-loop-index : goal.invariant-loop-index
invariant-loop-index l = HoldsBelow (λ _ x. supports_used_credentials l.tree.tree x) l.tree.tree l.index
