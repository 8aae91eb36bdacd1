use Rattle.std.proofs.Common.{subst}
use Rattle.mls_tree.specs.CountsModel.{AreBesideIn}
use Rattle.mls_tree.proofs.cached_counts.recount.Goals as goal

pub set_above-requires : goal.set_above-requires
set_above-requires c = subst (λ o. AreBesideIn o c.args.tree.now.tree c.args.leaf) c.in-Some.is c.requires
