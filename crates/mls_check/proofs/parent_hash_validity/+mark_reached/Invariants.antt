use Rattle.mls_tree.specs.Tree.{subtree_at}
use Rattle.mls_tree.proofs.Descent.{depth}
use Rattle.mls_check.proofs.parent_hash_validity.+mark_reached.Given as goal

abbrev pub decreases-mark_reached : goal.decreases-mark_reached
decreases-mark_reached l = depth (subtree_at 0 l.tree.now.tree l.node_index)
