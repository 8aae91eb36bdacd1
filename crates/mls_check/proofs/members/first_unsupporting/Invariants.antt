use Rattle.mls_check.specs.LeafValidation.{supports_required}
use Rattle.mls_check.specs.SortedRequirements.{requirements_of}
use Rattle.mls_check.proofs.Leaves.{HoldsBelow}
use Rattle.mls_check.proofs.members.first_unsupporting.Given as goal

abbrev pub invariant-loop-index : goal.invariant-loop-index
invariant-loop-index l = HoldsBelow (λ _ x. supports_required (requirements_of l.requirements) x) l.tree.tree l.index
