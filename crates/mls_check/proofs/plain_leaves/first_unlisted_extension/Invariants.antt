use Rattle.mls_check.specs.LeafValidation.{supports_own_extensions}
use Rattle.mls_check.proofs.Leaves.{HoldsBelow}
use Rattle.mls_check.proofs.plain_leaves.first_unlisted_extension.Given as goal

abbrev pub invariant-loop-index : goal.invariant-loop-index
invariant-loop-index l = HoldsBelow (λ _ x. supports_own_extensions x) l.tree.tree l.index
