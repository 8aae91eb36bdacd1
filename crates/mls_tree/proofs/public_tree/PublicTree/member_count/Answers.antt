use Rattle.std.proofs.Common.{ap, ◌∙◌, arith, sym, subst, length}
use Rattle.mls_tree.specs.Tree.{member_count}
use Rattle.mls_tree.specs.SubtreeCounts.{AreCounts}
use Rattle.mls_tree.specs.CountsModel.{AreCountsIn}
use Rattle.mls_tree.specs.PublicTreeModel.{KeptTree}
use Rattle.mls_tree.specs.declared.subtree_counts.Count.{Count}
use Rattle.mls_tree.proofs.public_tree.PublicTree.member_count.Goals as goal

pub total-requires-clause-count : goal.total-requires-clause-count
total-requires-clause-count c =
    let ok = subst (λ o. AreCountsIn o c.self.inside.tree.tree) c.in-Some.is c.self.invariant.1 in
    omega (arith, ok.0, ap length c.as_slice.ensures.value)

pub total-requires-clause-counts : goal.total-requires-clause-counts
total-requires-clause-counts c =
    let ok = subst (λ o. AreCountsIn o c.self.inside.tree.tree) c.in-Some.is c.self.invariant.1 in
    subst (λ cs. AreCounts 0 c.self.inside.tree.tree cs) (sym c.as_slice.ensures.value) ok.1

pub returns-in-Some : goal.returns-in-Some
returns-in-Some c = ap (λ (v : Count). v.members) c.total.ensures ∙ ap (λ (v : KeptTree). member_count v.tree) c.self.view_is
