use Rattle.std.proofs.Common.{ap, ◌∙◌, ◌≡◌, arith, subst}
use Rattle.mls_tree.specs.NodeArray.{tree_in}
use Rattle.mls_tree.specs.SubtreeCounts.{AreCounts}
use Rattle.mls_tree.proofs.Numbers.{leaves_at-low}
use Rattle.mls_tree.proofs.Lookups.{leaf_count-seen}
use Rattle.mls_tree.proofs.node_array.NodeArray.count_all.Goals as goal

pub count_all-requires-clause-inside : goal.count_all-requires-clause-inside
count_all-requires-clause-inside c = omega (arith, leaves_at-low c.self.inside.height c.self.inside.low)

pub count_all-requires-clause-capacity : goal.count_all-requires-clause-capacity
count_all-requires-clause-capacity c = omega (arith, c.requires, leaf_count-seen _ _ c.self.invariant c.args.self.now.tree (ap (λ r. r.tree) c.self.view_is))

pub returns-clause-count : goal.returns-clause-count
returns-clause-count c = c.count_all.ensures.preserved.count

pub returns-clause-counts : goal.returns-clause-counts
returns-clause-counts c =
    let at : tree_in c.as_slice.result.now c.self.inside.height 0 ≡ c.args.self.now.tree = ap (λ v. tree_in v c.self.inside.height 0) c.as_slice.ensures.value ∙ ap (λ r. r.tree) c.self.view_is in
    subst (λ t. AreCounts 0 t c.count_all.new.counts) at c.count_all.ensures.counts
