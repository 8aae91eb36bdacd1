use Rattle.std.proofs.Common.{rules}
use Rattle.mls_check.proofs.Neighbours.{increasing-tested}
use Rattle.mls_check.proofs.unmerged_order.is_strictly_increasing.Goals as goal

pub returns : goal.returns
returns c = increasing-tested _ _ _ (λ a b f' k. search rules) c.is_sorted_by.ensures.cases
