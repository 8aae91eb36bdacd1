use Rattle.std.proofs.Common.{ap, sym, ◌∙◌, ◌*◌, arith}
use Rattle.mls_tree.specs.PublicTreeModel.{plain}
use Rattle.mls_tree.proofs.Descent.{leaf_count-limit}
use Rattle.mls_hash.specs.SuiteHash.{hash_of}
use Rattle.mls_hash.specs.WithoutLeaves.{tree_hash_at}
use Rattle.mls_hash.proofs.KeptHashing.{right_hash}
use Rattle.mls_hash.proofs.decode.put_leaf_hashes.Goals as goal

pub overflow_mul-index : goal.overflow_mul-index
overflow_mul-index c = omega (arith, c.loop-index-test.true, c.leaf_count-index-end.ensures, leaf_count-limit (plain c.reserve_hashes.new.self))

pub keep_hash-requires : goal.keep_hash-requires
keep_hash-requires c =
    right_hash c.args.suite _ _ (2 * c.loop-index.index) c.in-Some.hash c.loop-index.invariant.kind
    (ap (λ t. tree_hash_at (hash_of c.args.suite) t (2 * c.loop-index.index)) c.loop-index.invariant.tree ∙ c.requires c.loop-index.index c.in-Some.hash (sym c.in-Some.ensures))
