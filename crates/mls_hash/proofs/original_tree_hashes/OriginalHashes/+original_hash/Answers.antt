use Rattle.std.proofs.Common.{ap, ◌∙◌, arith}
use Rattle.mls_tree.specs.PublicTreeModel.{plain}
use Rattle.mls_tree.specs.RatchetTree.{RatchetTree}
use Rattle.mls_tree.proofs.Descent.{depth, right_lower}
use Rattle.mls_hash.specs.SuiteHash.{hash_of}
use Rattle.mls_hash.proofs.Answers.{parent_answer}
use Rattle.mls_hash.proofs.Alike.{kept_hash, left_alike, right_alike, left_under, right_under}
use Rattle.mls_hash.proofs.Known.{own_known}
use Rattle.mls_hash.proofs.original_tree_hashes.OriginalHashes.+original_hash.Goals as goal

pub returns-in-Some : goal.returns-in-Some
returns-in-Some t c =
    kept_hash (hash_of c.args.suite) c.args.tree.now.tree c.args.left_out.now c.args.self.now.subtrees c.args.node_index c.in-Some.hash c.requires.known.subtrees c.in-Some.ensures.0 c.in-Some.ensures.1

pub returns-in-Some-own_hash : goal.returns-in-Some-own_hash
returns-in-Some-own_hash t c =
    let part = rw c.in-Some-Parent.field-0-is at c.in-Some-Parent.ensures in
    own_known c.args.tree.now.tree c.args.node_index _ _ _ _ part (hash_of c.args.suite) c.args.self.now.own c.args.left_out.now c.in-Some-own_hash.hash c.requires.known.own
    c.in-Some-own_hash.ensures.0 c.in-Some-own_hash.ensures.1

pub original_hash-requires : goal.original_hash-requires
original_hash-requires t c =
    let tree : RatchetTree = plain c.args.tree.now in
    let part = rw c.in-Some-Parent.field-0-is at c.in-Some-Parent.ensures in
    let cut = c.split-before.ensures in (
      omega (arith, c.decreases, ap depth part.left_child, ap depth part.whole),
      (c.requires.known, (c.requires.own_leaves, left_under tree.tree _ _ _ _ _ part c.args.left_out.now _ _ cut.whole cut.front cut.rest c.requires.under)),
    )

pub original_hash-requires-in-Some-Parent : goal.original_hash-requires-in-Some-Parent
original_hash-requires-in-Some-Parent t c =
    let tree : RatchetTree = plain c.args.tree.now in
    let part = rw c.in-Some-Parent.field-0-is at c.in-Some-Parent.ensures in
    let cut = c.split-before.ensures in (
      omega (arith, c.decreases, right_lower tree _ _ _ _ _ part),
      (c.requires.known, (c.requires.own_leaves, right_under tree.tree _ _ _ _ _ part c.args.left_out.now _ _ cut.whole cut.front cut.rest c.requires.under)),
    )

pub returns-in_ok-right-in-Some-Parent :
    goal.returns-in_ok-right-in-Some-Parent
returns-in_ok-right-in-Some-Parent t c =
    let tree : RatchetTree = plain c.args.tree.now in
    let part = rw c.in-Some-Parent.field-0-is at c.in-Some-Parent.ensures in
    let cut = c.split-before.ensures in
    parent_answer tree.tree c.args.node_index _ _ _ _ part (hash_of c.args.suite) c.args.left_out.now c.in_ok-left-in-Some-Parent.left c.in_ok-right-in-Some-Parent.right c.hash_parent.result
    (left_alike tree.tree _ _ _ _ _ part c.args.left_out.now _ _ cut.whole cut.front cut.rest (hash_of c.args.suite) c.requires.own_leaves ∙ c.in_ok-left-in-Some-Parent.ensures)
    (right_alike tree.tree _ _ _ _ _ part c.args.left_out.now _ _ cut.whole cut.front cut.rest (hash_of c.args.suite) c.requires.own_leaves ∙ c.in_ok-right-in-Some-Parent.ensures)
    c.hash_parent.ensures
