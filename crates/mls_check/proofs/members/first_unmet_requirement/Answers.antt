use Rattle.mls_check.specs.SortedRequirements.{requirements_of}
use Rattle.mls_check.proofs.IncreasingCodes.{found-same}
use Rattle.mls_check.proofs.members.first_unmet_requirement.Goals as goal

pub returns : goal.returns
returns c =
    found-same (requirements_of c.in_ok-sorted.sorted) c.args.requirements.now c.in_ok-sorted.ensures c.args.tree.now.tree _ c.first_unsupporting.ensures
