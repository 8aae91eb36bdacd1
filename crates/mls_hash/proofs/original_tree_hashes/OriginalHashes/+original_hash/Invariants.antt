use Rattle.mls_tree.specs.Tree.{subtree_at}
use Rattle.mls_tree.proofs.Descent.{depth}
use Rattle.mls_hash.proofs.original_tree_hashes.OriginalHashes.+original_hash.Given as goal

abbrev pub decreases-original_hash : goal.decreases-original_hash
decreases-original_hash l = depth (subtree_at 0 l.tree.now.tree l.node_index)
