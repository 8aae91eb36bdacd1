use Rattle.mls_tree.specs.Tree.{subtree_at}
use Rattle.mls_tree.proofs.Descent.{depth}
use Rattle.mls_hash.proofs.cached_hashes.+fill.Given as goal

abbrev pub decreases-fill : goal.decreases-fill
decreases-fill l = depth (subtree_at 0 l.tree.now.tree l.node_index)
