use Rattle.std.proofs.Common.{◌*◌, ◌-◌, Some, arith, ap, ◌∙◌}
use Rattle.mls_tree.specs.HashCache.{empty_count}
use Rattle.mls_tree.specs.Tree.{leaf_count}
use Rattle.mls_tree.proofs.Emptying.{empty_count-fresh}
use Rattle.mls_tree.proofs.Trees.{leaf_count-positive}
use Rattle.mls_hash.proofs.cached_hashes.fill_hashes.Goals as goal

pub returns-clause-all : goal.returns-clause-all
returns-clause-all c =
    λ other.
    let fresh = c.in_ok-reserve_hashes.ensures.fresh (λ e. other (e ∙ ap (λ k. Some k) c.kind.ensures.kind)) in
    let t = c.args.tree.now.tree in
    omega (arith, c.empty_slots-empty.ensures.count, ap empty_count fresh, empty_count-fresh (2 * leaf_count t - 1), leaf_count-positive t)
