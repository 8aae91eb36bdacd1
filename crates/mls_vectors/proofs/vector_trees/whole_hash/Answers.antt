use Rattle.std.proofs.Common.{rules, arith, sym, ◌∙◌}
use Rattle.mls_tree.specs.PublicTreeModel.{plain}
use Rattle.mls_tree.specs.RatchetTree.{RatchetTree}
use Rattle.mls_tree.proofs.Trees.{leaf_count-positive}
use Rattle.mls_hash.specs.SuiteHash.{hash_of}
use Rattle.mls_hash.proofs.Filling.{root_there}
use Rattle.mls_check.proofs.Hashed.{whole-hash}
use Rattle.mls_vectors.proofs.vector_trees.whole_hash.Goals as goal

pub overflow_sub-leaf_count : goal.overflow_sub-leaf_count
overflow_sub-leaf_count c = let tree : RatchetTree = plain c.args.tree.now in omega (arith, c.leaf_count.ensures, leaf_count-positive tree.tree)

pub unreachable-requires : goal.unreachable-requires
unreachable-requires c =
    let inside = root_there (plain c.args.tree.now) c.leaf_count.result c.leaf_count.ensures in
    search rules

pub returns : goal.returns
returns c = sym (whole-hash (hash_of c.args.suite) (plain c.args.tree.now) c.leaf_count.result c.leaf_count.ensures) ∙ c.in-Ok.ensures.hash
