use Rattle.std.proofs.Common.{subst}
use Rattle.mls_tree.specs.CountsModel.{AreFrontOf}
use Rattle.mls_tree.proofs.cached_counts.truncate_counts.Goals as goal

pub returns : goal.returns
returns c = λ t e front. c.shorten.ensures t e (subst (λ o. AreFrontOf o t) c.in-Some.is front)
