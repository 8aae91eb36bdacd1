use Rattle.mls_tree.specs.Tree.{subtree_at}
use Rattle.mls_tree.proofs.Descent.{depth}
use Rattle.mls_hash.proofs.subtree_hashes.+put_hashes.Given as goal

abbrev pub decreases-put_hashes : goal.decreases-put_hashes
decreases-put_hashes l = depth (subtree_at 0 l.tree.now.tree l.node_index)
