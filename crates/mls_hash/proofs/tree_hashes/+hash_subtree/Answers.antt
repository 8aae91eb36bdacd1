use Rattle.std.proofs.Common.{arith}
use Rattle.mls_hash.specs.SuiteHash.{hash_of}
use Rattle.mls_tree.specs.PublicTreeModel.{plain}
use Rattle.mls_tree.specs.RatchetTree.{RatchetTree}
use Rattle.mls_tree.proofs.Descent.{right_lower}
use Rattle.mls_hash.proofs.Answers.{parent_answer}
use Rattle.mls_hash.proofs.tree_hashes.+hash_subtree.Goals as goal

pub hash_subtree-requires-in-Some-Parent : goal.hash_subtree-requires-in-Some-Parent
hash_subtree-requires-in-Some-Parent t c =
    let tree : RatchetTree = plain c.args.tree.now in
    let part = rw c.in-Some-Parent.field-0-is at c.in-Some-Parent.ensures in
    omega (arith, c.decreases, right_lower tree _ _ _ _ _ part)

pub returns-in_ok-right-in-Some-Parent : goal.returns-in_ok-right-in-Some-Parent
returns-in_ok-right-in-Some-Parent t c =
    let part = rw c.in-Some-Parent.field-0-is at c.in-Some-Parent.ensures in
    parent_answer c.args.tree.now.tree c.args.node_index c.in-Some-Parent.left c.in-Some-Parent.right _ _ part (hash_of c.args.suite) c.args.left_out.now
    c.in_ok-left-in-Some-Parent.left c.in_ok-right-in-Some-Parent.right c.hash_parent.result c.in_ok-left-in-Some-Parent.ensures c.in_ok-right-in-Some-Parent.ensures c.hash_parent.ensures
