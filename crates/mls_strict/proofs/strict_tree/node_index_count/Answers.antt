use Rattle.std.proofs.Common.{arith}
use Rattle.mls_tree.specs.PublicTreeModel.{plain}
use Rattle.mls_tree.specs.RatchetTree.{RatchetTree}
use Rattle.mls_tree.proofs.Trees.{leaf_count-positive}
use Rattle.mls_tree.proofs.Descent.{leaf_count-limit}
use Rattle.mls_strict.proofs.strict_tree.node_index_count.Goals as goal

pub overflow_mul-result : goal.overflow_mul-result
overflow_mul-result c = let tree : RatchetTree = plain c.args.tree.now in omega (arith, c.leaf_count.ensures, leaf_count-limit tree)

pub overflow_sub-result : goal.overflow_sub-result
overflow_sub-result c = let tree : RatchetTree = plain c.args.tree.now in omega (arith, c.leaf_count.ensures, leaf_count-positive tree.tree)

pub returns : goal.returns
returns c = let tree : RatchetTree = plain c.args.tree.now in omega (arith, c.leaf_count.ensures, leaf_count-positive tree.tree)
