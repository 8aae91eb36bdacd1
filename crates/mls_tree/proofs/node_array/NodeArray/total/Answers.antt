use Rattle.std.proofs.Common.{ap, ◌∙◌, ◌≡◌, arith, sym, subst}
use Rattle.mls_tree.specs.NodeArray.{tree_in}
use Rattle.mls_tree.specs.SubtreeCounts.{AreCounts, subtree_count}
use Rattle.mls_tree.proofs.Numbers.{leaves_at-low}
use Rattle.mls_tree.proofs.Lookups.{leaf_count-seen}
use Rattle.mls_tree.proofs.node_array.NodeArray.total.Goals as goal

pub count_of-requires-clause-inside : goal.count_of-requires-clause-inside
count_of-requires-clause-inside c = omega (arith, leaves_at-low c.self.inside.height c.self.inside.low)

pub count_of-requires-clause-capacity : goal.count_of-requires-clause-capacity
count_of-requires-clause-capacity c = omega (arith, c.requires.count, leaf_count-seen _ _ c.self.invariant c.args.self.now.tree (ap (λ r. r.tree) c.self.view_is))

pub count_of-requires-clause-counts : goal.count_of-requires-clause-counts
count_of-requires-clause-counts c =
    let at : tree_in c.as_slice.result.now c.self.inside.height 0 ≡ c.args.self.now.tree = ap (λ v. tree_in v c.self.inside.height 0) c.as_slice.ensures.value ∙ ap (λ r. r.tree) c.self.view_is in
    subst (λ t. AreCounts 0 t c.args.counts.now) (sym at) c.requires.counts

pub returns : goal.returns
returns c = c.count_of.ensures ∙ ap subtree_count (ap (λ v. tree_in v c.self.inside.height 0) c.as_slice.ensures.value ∙ ap (λ r. r.tree) c.self.view_is)
