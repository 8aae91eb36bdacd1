use Rattle.std.proofs.Common.{◌∙◌, ◌-◌, arith, rules, sym}
use Rattle.mls_tree.specs.PublicTreeModel.{plain}
use Rattle.mls_tree.specs.RatchetTree.{RatchetTree}
use Rattle.mls_tree.proofs.Coordinates.{root-seen}
use Rattle.mls_tree.proofs.Descent.{leaf_count-limit}
use Rattle.mls_tree.proofs.Trees.{leaf_count-positive}
use Rattle.mls_hash.specs.SuiteHash.{hash_of}
use Rattle.mls_hash.proofs.Filling.{all_put, node_count, root_there}
use Rattle.mls_hash.proofs.subtree_hashes.hash_all.Goals as goal

pub blank-requires-clause-count : goal.blank-requires-clause-count
blank-requires-clause-count c =
    let tree : RatchetTree = plain c.args.tree.now in
    omega (arith, node_count tree.tree c.nodes.result.now c.nodes.ensures, leaf_count-limit tree)

pub overflow_sub-root : goal.overflow_sub-root
overflow_sub-root c = let tree : RatchetTree = plain c.args.tree.now in omega (arith, c.leaf_count-root.ensures, leaf_count-positive tree.tree)

pub put_hashes-requires : goal.put_hashes-requires
put_hashes-requires c =
    let tree : RatchetTree = plain c.args.tree.now in
    record {
      count = omega (arith, c.in_ok-hashes.ensures.count, node_count tree.tree c.nodes.result.now c.nodes.ensures);
      width = c.in_ok-hashes.ensures.width ∙ c.hash_len.ensures.length;
    }

pub unreachable-requires : goal.unreachable-requires
unreachable-requires c =
    let tree : RatchetTree = plain c.args.tree.now in
    let inside = root_there tree c.leaf_count-root.result c.leaf_count-root.ensures in
    search rules

pub returns : goal.returns
returns c =
    let tree : RatchetTree = plain c.args.tree.now in
    let capacity = c.put_hashes.ensures.capacity in
    record {
      each = all_put (hash_of c.args.suite) tree.tree c.put_hashes.new.hashes.hashes (c.leaf_count-root.result - 1) capacity.count (root-seen tree c.leaf_count-root.result (sym c.leaf_count-root.ensures)) c.in-Ok.ensures.put;
      count = capacity.count;
    }
