use Rattle.std.proofs.Common.{◌∙◌, ap, length, arith}
use Rattle.mls_nodes.specs.Limits.{leaf_limit}
use Rattle.mls_tree.specs.MergedLists.{insert_numbers}
use Rattle.mls_tree.proofs.Choices.{is_less, not_less}
use Rattle.mls_tree.proofs.MergedParents.{overfills_parent-last}
use Rattle.mls_tree.proofs.merged_parents.merged_parent.Goals as goal

pub returns-then-len-gt-MAX_UNMERGED-clause-too_many_leaves : goal.returns-then-len-gt-MAX_UNMERGED-clause-too_many_leaves
returns-then-len-gt-MAX_UNMERGED-clause-too_many_leaves c _ =
    overfills_parent-last c.args.indices.now c.args.parent.now c.merged_list.ensures.limit
    ∙ is_less leaf_limit (length (insert_numbers c.args.indices.now c.args.parent.now.unmerged))
    (omega (arith, c.if-len-gt-MAX_UNMERGED.true, c.len.ensures, ap length c.in_ok-merged.ensures.merged))

pub returns-clause-fits : goal.returns-clause-fits
returns-clause-fits c =
    overfills_parent-last c.args.indices.now c.args.parent.now c.merged_list.ensures.limit
    ∙ not_less leaf_limit (length (insert_numbers c.args.indices.now c.args.parent.now.unmerged))
    (omega (arith, c.if-len-gt-MAX_UNMERGED.false, c.len.ensures, ap length c.in_ok-merged.ensures.merged))
