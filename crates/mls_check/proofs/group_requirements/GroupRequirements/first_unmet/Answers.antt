use Rattle.std.proofs.Common.{subst}
use Rattle.mls_check.specs.SortedRequirements.{RequireSame, requirements_of}
use Rattle.mls_check.proofs.IncreasingCodes.{found-same}
use Rattle.mls_check.proofs.group_requirements.GroupRequirements.first_unmet.Goals as goal

pub returns : goal.returns
returns c =
    let sorted = requirements_of c.self.inside.sorted in
    found-same sorted c.args.self.now (subst (RequireSame sorted) c.self.view_is c.self.invariant) c.args.tree.now.tree _ c.first_unsupporting.ensures
