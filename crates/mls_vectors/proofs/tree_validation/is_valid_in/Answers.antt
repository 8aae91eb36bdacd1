use Rattle.std.proofs.Common.{◌≢◌, rules}
use Rattle.mls_tree.specs.PublicTreeModel.{plain}
use Rattle.mls_tree.specs.RatchetTree.{RatchetTree}
use Rattle.mls_hash.specs.SuiteHash.{hash_of}
use Rattle.mls_check.proofs.Faulted.{fault-not_valid}
use Rattle.mls_check.specs.declared.tree_validation.TreeFault.TheVariants.{OutOfMemory}
use Rattle.mls_vectors.proofs.tree_validation.is_valid_in.Goals as goal

pub returns-else-eq : goal.returns-else-eq
returns-else-eq c =
    let other : c.in-Err.fault ≢ OutOfMemory = search rules in
    let tree : RatchetTree = plain c.args.tree.now in
    (λ h. cc, λ v. absurd (fault-not_valid (hash_of c.args.suite) c.args.context.now.tree_hash tree.tree c.in-Err.fault other c.in-Err.ensures.first_fault v))
