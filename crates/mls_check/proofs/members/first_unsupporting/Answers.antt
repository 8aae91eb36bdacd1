use Rattle.std.proofs.Common.{arith}
use Rattle.mls_check.specs.LeafValidation.{supports_required}
use Rattle.mls_check.specs.SortedRequirements.{requirements_of}
use Rattle.mls_check.proofs.Leaves.{all_leaves-below}
use Rattle.mls_check.proofs.members.first_unsupporting.Goals as goal

pub returns : goal.returns
returns c =
    all_leaves-below (λ _ x. supports_required (requirements_of c.args.requirements.now) x) c.args.tree.now.tree c.loop-index.index
    c.loop-index.invariant
    (omega (arith, c.leaf_count-index-end.ensures, c.loop-index-test.false))
