use Rattle.mls_tree.specs.Tree.{subtree_at}
use Rattle.mls_tree.proofs.Descent.{depth}
use Rattle.mls_check.proofs.unmerged_consistency.+are_unmerged_in_all.Given as goal

abbrev pub decreases-are_unmerged_in_all : goal.decreases-are_unmerged_in_all
decreases-are_unmerged_in_all l = depth (subtree_at 0 l.tree.now.tree l.node_index)
