use Rattle.std.proofs.Common.{ap, ◌∙◌, arith, sym, subst, nat_lt}
use Rattle.std.specs.Prelude.{option_copied}
use Rattle.mls_tree.specs.NodeArray.{tree_in}
use Rattle.mls_tree.specs.CountsModel.{AreCountsIfAny}
use Rattle.mls_tree.specs.declared.subtree_counts.Count.{Count}
use Rattle.mls_tree.proofs.Arrays.{leaf_count-tree_in}
use Rattle.mls_tree.proofs.CountsRead.{has_non_blank_leaf-subtree_count}
use Rattle.mls_tree.proofs.blanks.counts_non_blank_leaf.Goals as goal

pub count_of-requires-clause-capacity : goal.count_of-requires-clause-capacity
count_of-requires-clause-capacity c =
    let ok = subst (λ o. AreCountsIfAny (option_copied o) c.args.first (tree_in c.args.nodes.now c.args.level c.args.first)) c.in-Some.is c.requires.counts in
    let capacity = ok.0 in
    omega (arith, leaf_count-tree_in c.args.nodes.now c.args.level c.args.first)

pub count_of-requires-clause-counts : goal.count_of-requires-clause-counts
count_of-requires-clause-counts c =
    let ok = subst (λ o. AreCountsIfAny (option_copied o) c.args.first (tree_in c.args.nodes.now c.args.level c.args.first)) c.in-Some.is c.requires.counts in
    ok.1

pub returns-in-Some : goal.returns-in-Some
returns-in-Some c = ap (λ (v : Count). nat_lt 0 v.members) c.count_of.ensures ∙ sym (has_non_blank_leaf-subtree_count (tree_in c.args.nodes.now c.args.level c.args.first))
