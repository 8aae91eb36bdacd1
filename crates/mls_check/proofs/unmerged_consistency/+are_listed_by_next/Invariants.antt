use Rattle.mls_tree.specs.Tree.{subtree_at}
use Rattle.mls_tree.proofs.Descent.{depth}
use Rattle.mls_check.proofs.unmerged_consistency.+are_listed_by_next.Given as goal

abbrev pub decreases-are_listed_by_next : goal.decreases-are_listed_by_next
decreases-are_listed_by_next l = depth (subtree_at 0 l.tree.now.tree l.node_index)
