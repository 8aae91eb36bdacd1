use Rattle.std.proofs.Common.{ap, sym, ◌∙◌, arith}
use Rattle.mls_tree.specs.PublicTreeModel.{plain}
use Rattle.mls_tree.specs.RatchetTree.{RatchetTree}
use Rattle.mls_hash.specs.SuiteHash.{hash_of}
use Rattle.mls_tree.proofs.Descent.{right_lower, inside_bound}
use Rattle.mls_hash.proofs.Lengths.{length-hashed}
use Rattle.mls_hash.proofs.Filling.{leaf_hashed, parent_hashed, put_keeps, put_room, leaf_put, parent_put, keep_under}
use Rattle.mls_hash.proofs.subtree_hashes.+put_hashes.Goals as goal

pub put-requires : goal.put-requires
put-requires t c =
    let part = rw c.in-Some-Leaf.field-0-is at c.in-Some-Leaf.ensures in
    record {
      slot = omega (arith, c.requires.count, inside_bound c.args.tree.now.tree c.args.node_index _ part);
      width = length-hashed c.args.suite _ _ c.hash_leaf-hash.ensures ∙ sym c.requires.width;
    }

pub put_hashes-requires-in-Some-Parent : goal.put_hashes-requires-in-Some-Parent
put_hashes-requires-in-Some-Parent t c =
    let tree : RatchetTree = plain c.args.tree.now in
    let part = rw c.in-Some-Parent.field-0-is at c.in-Some-Parent.ensures in
    (omega (arith, c.decreases, right_lower tree _ _ _ _ _ part), c.put_hashes.ensures.capacity)

pub put-requires-in-Some-Parent : goal.put-requires-in-Some-Parent
put-requires-in-Some-Parent t c =
    let part = rw c.in-Some-Parent.field-0-is at c.in-Some-Parent.ensures in
    let capacity = c.put_hashes-in-Some-Parent.ensures.capacity in
    record {
      slot = omega (arith, capacity.count, inside_bound c.args.tree.now.tree c.args.node_index _ part.whole);
      width = length-hashed c.args.suite _ _ c.hash_parent-hash.ensures ∙ sym capacity.width;
    }

pub returns-in-Some-Leaf-clause-capacity : goal.returns-in-Some-Leaf-clause-capacity
returns-in-Some-Leaf-clause-capacity t c =
    put_room c.args.suite c.args.tree.now.tree c.args.hashes.now c.put.new.self c.args.node_index c.hash_leaf-hash.result c.requires c.put.ensures

pub returns-in-Some-Leaf-clause-kept : goal.returns-in-Some-Leaf-clause-kept
returns-in-Some-Leaf-clause-kept t c =
    let part = rw c.in-Some-Leaf.field-0-is at c.in-Some-Leaf.ensures in
    put_keeps (hash_of c.args.suite) c.args.tree.now.tree c.args.hashes.now.hashes c.put.new.self.hashes c.args.node_index c.hash_leaf-hash.result
    (omega (arith, c.requires.count, inside_bound c.args.tree.now.tree c.args.node_index _ part)) (ap (λ l. l.hashes) c.put.ensures)
    (leaf_hashed (hash_of c.args.suite) c.args.tree.now.tree c.args.node_index _ _ c.hash_leaf-hash.result part c.hash_leaf-hash.ensures)

pub returns-in-Some-Leaf-clause-put : goal.returns-in-Some-Leaf-clause-put
returns-in-Some-Leaf-clause-put t c =
    let part = rw c.in-Some-Leaf.field-0-is at c.in-Some-Leaf.ensures in
    leaf_put (hash_of c.args.suite) c.args.tree.now.tree c.args.hashes.now.hashes c.put.new.self.hashes c.args.node_index c.hash_leaf-hash.result
    (omega (arith, c.requires.count, inside_bound c.args.tree.now.tree c.args.node_index _ part)) (ap (λ l. l.hashes) c.put.ensures)
    (leaf_hashed (hash_of c.args.suite) c.args.tree.now.tree c.args.node_index _ _ c.hash_leaf-hash.result part c.hash_leaf-hash.ensures) _ _ part

pub returns-in_ok-right-in-Some-Parent-clause-capacity : goal.returns-in_ok-right-in-Some-Parent-clause-capacity
returns-in_ok-right-in-Some-Parent-clause-capacity t c =
    put_room c.args.suite c.args.tree.now.tree c.put_hashes-in-Some-Parent.new.hashes c.put-in-Some-Parent.new.self c.args.node_index c.hash_parent-hash.result
    c.put_hashes-in-Some-Parent.ensures.capacity c.put-in-Some-Parent.ensures

pub returns-in_ok-right-in-Some-Parent-clause-hash :
    goal.returns-in_ok-right-in-Some-Parent-clause-hash
returns-in_ok-right-in-Some-Parent-clause-hash t c =
    let part = rw c.in-Some-Parent.field-0-is at c.in-Some-Parent.ensures in
    parent_hashed (hash_of c.args.suite) c.args.tree.now.tree c.args.node_index _ _ _ _ part _ c.in_ok-left-in-Some-Parent.left c.in_ok-right-in-Some-Parent.right
    c.hash_parent-hash.result c.empty.ensures c.in_ok-left-in-Some-Parent.ensures.hash c.in_ok-right-in-Some-Parent.ensures.hash c.hash_parent-hash.ensures

pub returns-in_ok-right-in-Some-Parent-clause-kept :
    goal.returns-in_ok-right-in-Some-Parent-clause-kept
returns-in_ok-right-in-Some-Parent-clause-kept t c =
    let part = rw c.in-Some-Parent.field-0-is at c.in-Some-Parent.ensures in
    λ q e.
    put_keeps (hash_of c.args.suite) c.args.tree.now.tree c.put_hashes-in-Some-Parent.new.hashes.hashes c.put-in-Some-Parent.new.self.hashes c.args.node_index c.hash_parent-hash.result
    (omega (arith, c.put_hashes-in-Some-Parent.ensures.capacity.count, inside_bound c.args.tree.now.tree c.args.node_index _ part.whole)) (ap (λ l. l.hashes) c.put-in-Some-Parent.ensures)
    (parent_hashed (hash_of c.args.suite) c.args.tree.now.tree c.args.node_index _ _ _ _ part _ c.in_ok-left-in-Some-Parent.left c.in_ok-right-in-Some-Parent.right
    c.hash_parent-hash.result c.empty.ensures c.in_ok-left-in-Some-Parent.ensures.hash c.in_ok-right-in-Some-Parent.ensures.hash c.hash_parent-hash.ensures)
    q (c.in_ok-right-in-Some-Parent.ensures.kept q (c.in_ok-left-in-Some-Parent.ensures.kept q e))

pub returns-in_ok-right-in-Some-Parent-clause-put :
    goal.returns-in_ok-right-in-Some-Parent-clause-put
returns-in_ok-right-in-Some-Parent-clause-put t c =
    let part = rw c.in-Some-Parent.field-0-is at c.in-Some-Parent.ensures in
    parent_put (hash_of c.args.suite) c.args.tree.now.tree c.put_hashes-in-Some-Parent.new.hashes.hashes c.put-in-Some-Parent.new.self.hashes c.args.node_index c.hash_parent-hash.result
    (omega (arith, c.put_hashes-in-Some-Parent.ensures.capacity.count, inside_bound c.args.tree.now.tree c.args.node_index _ part.whole)) (ap (λ l. l.hashes) c.put-in-Some-Parent.ensures)
    (parent_hashed (hash_of c.args.suite) c.args.tree.now.tree c.args.node_index _ _ _ _ part _ c.in_ok-left-in-Some-Parent.left c.in_ok-right-in-Some-Parent.right
    c.hash_parent-hash.result c.empty.ensures c.in_ok-left-in-Some-Parent.ensures.hash c.in_ok-right-in-Some-Parent.ensures.hash c.hash_parent-hash.ensures)
    _ _ _ _ part
    (keep_under (hash_of c.args.suite) c.args.tree.now.tree c.put_hashes.new.hashes.hashes c.put_hashes-in-Some-Parent.new.hashes.hashes _ c.in_ok-right-in-Some-Parent.ensures.kept c.in_ok-left-in-Some-Parent.ensures.put)
    c.in_ok-right-in-Some-Parent.ensures.put
