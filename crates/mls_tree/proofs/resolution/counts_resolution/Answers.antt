use Rattle.std.proofs.Common.{ap, arith, subst}
use Rattle.std.specs.Prelude.{option_copied}
use Rattle.mls_tree.specs.NodeArray.{tree_in}
use Rattle.mls_tree.specs.CountsModel.{AreCountsIfAny}
use Rattle.mls_tree.specs.declared.subtree_counts.Count.{Count}
use Rattle.mls_tree.proofs.Arrays.{leaf_count-tree_in}
use Rattle.mls_tree.proofs.CountsRead.{resolution-subtree_count}
use Rattle.mls_tree.proofs.resolution.counts_resolution.Goals as goal

pub count_of-requires-clause-capacity : goal.count_of-requires-clause-capacity
count_of-requires-clause-capacity c =
    let ok = subst (λ o. AreCountsIfAny (option_copied o) c.args.first (tree_in c.args.nodes.now c.args.level c.args.first)) c.in-Some.is c.requires.counts in
    let capacity = ok.0 in
    omega (arith, leaf_count-tree_in c.args.nodes.now c.args.level c.args.first)

pub count_of-requires-clause-counts : goal.count_of-requires-clause-counts
count_of-requires-clause-counts c =
    let ok = subst (λ o. AreCountsIfAny (option_copied o) c.args.first (tree_in c.args.nodes.now c.args.level c.args.first)) c.in-Some.is c.requires.counts in
    ok.1

pub returns-in-Some : goal.returns-in-Some
returns-in-Some c leaves = resolution-subtree_count leaves c.args.first (tree_in c.args.nodes.now c.args.level c.args.first) _ (ap (λ (v : Count). v.nodes) c.count_of.ensures)
