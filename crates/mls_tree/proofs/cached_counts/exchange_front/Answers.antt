use Rattle.std.proofs.Common.{subst, arith}
use Rattle.mls_tree.specs.CountsModel.{AreCountsIn, AreFrontOf}
use Rattle.mls_tree.proofs.Fronts.{leaf_count-rejoined}
use Rattle.mls_tree.proofs.Counting.{AreCounts-same, beside-rejoined}
use Rattle.mls_tree.proofs.cached_counts.exchange_front.Goals as goal

pub returns-clause-whole : goal.returns-clause-whole
returns-clause-whole c = λ t w a b le front whole.
    let own = subst (λ o. AreCountsIn o t) c.in-Some-front.is front in
    let old = subst (λ o. AreCountsIn o w) c.in-Some.is whole in
    let s = c.swap_prefix.ensures in (
      omega (arith, s.long, old.0, leaf_count-rejoined t w a b le),
      beside-rejoined t a c.in-Some-front.front.list.items c.in-Some.whole.list.items c.swap_prefix.new.whole.items own.0 s.put s.rest own.1 w b old.1,
    )

pub returns-clause-front : goal.returns-clause-front
returns-clause-front c = λ t u same front whole.
    let own = subst (λ o. AreCountsIn o t) c.in-Some-front.is front in
    let old = subst (λ o. AreFrontOf o u) c.in-Some.is whole in
    let s = c.swap_prefix.ensures in
    let count = own.0 in (
      omega (arith, s.short, count, same),
      AreCounts-same c.in-Some.whole.list.items c.swap_prefix.new.front.items 0 u (λ p low high. s.taken p (omega arith)) old.1,
    )
