use Rattle.std.proofs.Common.{ap, ◌∙◌, ◌≡◌, arith, sym, subst}
use Rattle.mls_tree.specs.NodeArray.{tree_in}
use Rattle.mls_tree.specs.SubtreeCounts.{AreCounts, AreOutside}
use Rattle.mls_tree.proofs.Numbers.{leaves_at-low}
use Rattle.mls_tree.proofs.Lookups.{leaf_count-seen}
use Rattle.mls_tree.proofs.node_array.NodeArray.recount.Goals as goal

pub recount-requires-clause-inside : goal.recount-requires-clause-inside
recount-requires-clause-inside c = omega (arith, leaves_at-low c.self.inside.height c.self.inside.low)

pub recount-requires-clause-capacity : goal.recount-requires-clause-capacity
recount-requires-clause-capacity c = omega (arith, c.requires.count, leaf_count-seen _ _ c.self.invariant c.args.self.now.tree (ap (λ r. r.tree) c.self.view_is))

pub recount-requires-clause-beside : goal.recount-requires-clause-beside
recount-requires-clause-beside c =
    let at : tree_in c.as_slice.result.now c.self.inside.height 0 ≡ c.args.self.now.tree = ap (λ v. tree_in v c.self.inside.height 0) c.as_slice.ensures.value ∙ ap (λ r. r.tree) c.self.view_is in
    subst (λ t. AreOutside 0 t c.args.leaf c.args.counts.now) (sym at) c.requires.beside

pub returns-clause-count : goal.returns-clause-count
returns-clause-count c = c.recount.ensures.preserved.count

pub returns-clause-counts : goal.returns-clause-counts
returns-clause-counts c =
    let at : tree_in c.as_slice.result.now c.self.inside.height 0 ≡ c.args.self.now.tree = ap (λ v. tree_in v c.self.inside.height 0) c.as_slice.ensures.value ∙ ap (λ r. r.tree) c.self.view_is in
    subst (λ t. AreCounts 0 t c.recount.new.counts) at c.recount.ensures.counts
