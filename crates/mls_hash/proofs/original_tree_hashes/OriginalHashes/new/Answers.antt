use Rattle.std.proofs.Common.{arith}
use Rattle.mls_tree.specs.PublicTreeModel.{plain}
use Rattle.mls_tree.specs.RatchetTree.{RatchetTree}
use Rattle.mls_tree.proofs.Descent.{leaf_count-limit}
use Rattle.mls_hash.proofs.Filling.{node_count}
use Rattle.mls_hash.proofs.original_tree_hashes.OriginalHashes.new.Goals as goal

pub blank-requires : goal.blank-requires
blank-requires c =
    let tree : RatchetTree = plain c.args.tree.now in
    record {
      count = omega (arith, node_count tree.tree c.nodes.result.now c.nodes.ensures, leaf_count-limit tree);
      width = c.width.ensures;
    }
