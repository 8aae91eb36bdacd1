use Rattle.std.proofs.Common.{ap, arith, sym, subst, ◌≡◌, ◌∙◌}
use Rattle.std.specs.Prelude.{option_copied}
use Rattle.mls_tree.specs.NodeArray.{tree_in}
use Rattle.mls_tree.specs.BlankLeaves.{next_blank_leaf}
use Rattle.mls_tree.specs.SubtreeCounts.{AreCounts}
use Rattle.mls_tree.specs.CountsModel.{AreCountsIfAny}
use Rattle.mls_tree.proofs.Numbers.{leaves_at-low}
use Rattle.mls_tree.proofs.Lookups.{leaf_count-seen}
use Rattle.mls_tree.proofs.node_array.NodeArray.next_blank_leaf.Goals as goal

pub counted_blank_leaf-requires-clause-inside : goal.counted_blank_leaf-requires-clause-inside
counted_blank_leaf-requires-clause-inside c = omega (arith, leaves_at-low c.self.inside.height c.self.inside.low)

pub counted_blank_leaf-requires-clause-capacity : goal.counted_blank_leaf-requires-clause-capacity
counted_blank_leaf-requires-clause-capacity c =
    let ok = subst (λ o. AreCountsIfAny (option_copied o) 0 c.args.self.now.tree) c.in-Some.is c.requires in
    let capacity = ok.0 in
    omega (arith, leaf_count-seen _ _ c.self.invariant c.args.self.now.tree (ap (λ r. r.tree) c.self.view_is))

pub counted_blank_leaf-requires-clause-counts : goal.counted_blank_leaf-requires-clause-counts
counted_blank_leaf-requires-clause-counts c =
    let ok = subst (λ o. AreCountsIfAny (option_copied o) 0 c.args.self.now.tree) c.in-Some.is c.requires in
    let at : tree_in c.as_slice.result.now c.self.inside.height 0 ≡ c.args.self.now.tree = ap (λ v. tree_in v c.self.inside.height 0) c.as_slice.ensures.value ∙ ap (λ r. r.tree) c.self.view_is in
    subst (λ t. AreCounts 0 t c.in-Some.counts.now) (sym at) ok.1

pub returns-in-Some : goal.returns-in-Some
returns-in-Some c =
    c.counted_blank_leaf.ensures
    ∙ ap (next_blank_leaf c.args.start 0) (ap (λ v. tree_in v c.self.inside.height 0) c.as_slice.ensures.value ∙ ap (λ r. r.tree) c.self.view_is)
