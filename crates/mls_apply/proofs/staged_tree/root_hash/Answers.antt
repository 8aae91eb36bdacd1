use Rattle.std.proofs.Common.{rules, arith, sym, ◌∙◌}
use Rattle.mls_tree.specs.PublicTreeModel.{plain}
use Rattle.mls_tree.specs.RatchetTree.{RatchetTree}
use Rattle.mls_tree.proofs.Trees.{leaf_count-positive}
use Rattle.mls_hash.specs.SuiteHash.{hash_of}
use Rattle.mls_hash.proofs.Filling.{root_there}
use Rattle.mls_check.proofs.Hashed.{whole-hash}
use Rattle.mls_apply.proofs.staged_tree.root_hash.Goals as goal

pub overflow_sub-root : goal.overflow_sub-root
overflow_sub-root c = let tree : RatchetTree = plain c.args.tree.now in omega (arith, c.leaf_count-root.ensures, leaf_count-positive tree.tree)

pub unreachable-requires : goal.unreachable-requires
unreachable-requires c =
    let inside = root_there (plain c.args.tree.now) c.leaf_count-root.result c.leaf_count-root.ensures in
    search rules

pub returns-in-Ok-clause-hash : goal.returns-in-Ok-clause-hash
returns-in-Ok-clause-hash c = sym (whole-hash (hash_of c.args.suite) (plain c.args.tree.now) c.leaf_count-root.result c.leaf_count-root.ensures) ∙ c.in-Ok.ensures.hash
