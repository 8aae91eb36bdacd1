use Rattle.std.proofs.Common.{◌*◌, ◌-◌, arith}
use Rattle.mls_tree.specs.PublicTreeModel.{plain}
use Rattle.mls_tree.proofs.Descent.{leaf_count-limit}
use Rattle.mls_tree.proofs.Trees.{leaf_count-positive}
use Rattle.mls_hash.specs.SuiteHash.{hash_of}
use Rattle.mls_hash.proofs.CachedLists.{all_cached}
use Rattle.mls_hash.proofs.subtree_hashes.stored_hashes.Goals as goal

pub overflow_mul-count : goal.overflow_mul-count
overflow_mul-count c = omega (arith, c.leaf_count.ensures, leaf_count-limit (plain c.args.tree.now))

pub overflow_sub-count : goal.overflow_sub-count
overflow_sub-count c = omega (arith, c.leaf_count.ensures, leaf_count-positive c.args.tree.now.tree)

pub are_all_cached-requires : goal.are_all_cached-requires
are_all_cached-requires c = omega (arith, c.leaf_count.ensures, leaf_count-positive c.args.tree.now.tree)

pub returns-then-are_all_cached-clause-hashes : goal.returns-then-are_all_cached-clause-hashes
returns-then-are_all_cached-clause-hashes c =
    let t = c.args.tree.now.tree in
    all_cached (hash_of c.args.suite) t (2 * c.leaf_count.result - 1) c.args.tree.now.slots (omega (arith, c.leaf_count.ensures, leaf_count-positive t)) c.if-are_all_cached.ensures
