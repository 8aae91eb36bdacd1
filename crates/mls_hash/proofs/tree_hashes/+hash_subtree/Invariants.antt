use Rattle.mls_tree.specs.Tree.{subtree_at}
use Rattle.mls_tree.proofs.Descent.{depth}
use Rattle.mls_hash.proofs.tree_hashes.+hash_subtree.Given as goal

abbrev pub decreases-hash_subtree : goal.decreases-hash_subtree
decreases-hash_subtree l = depth (subtree_at 0 l.tree.now.tree l.node_index)
