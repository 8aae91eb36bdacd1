use Rattle.std.proofs.Common.{ℕ, List}
use Rattle.std.specs.Prelude.{◌==◌}
use Rattle.mls_tree.specs.Tree.{leaf_count}
use Rattle.mls_tree.specs.Paths.{count_not_in}
use Rattle.mls_apply.proofs.Counting.{resolution_of-mapped}
use Rattle.mls_apply.proofs.path_rules.has_recipients.Goals as goal

pub returns : goal.returns
returns c =
    resolution_of-mapped _ _ (leaf_count c.args.tree.now.tree) (λ (node_indices : List ℕ). count_not_in c.args.added.now node_indices == c.args.count) c.in-Ok.right
    c.copath_child-away.ensures.child c.copath_child-away.ensures.there c.in-Ok.ensures.answer
