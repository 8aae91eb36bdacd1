use Rattle.std.proofs.Common.{arith, ap, ◌∙◌}
use Rattle.mls_tree.specs.PublicTreeModel.{plain}
use Rattle.mls_tree.specs.Tree.{subtree_at}
use Rattle.mls_tree.proofs.Descent.{depth, right_lower}
use Rattle.mls_hash.specs.SuiteHash.{hash_of}
use Rattle.mls_hash.specs.WithoutLeaves.{tree_hash_at}
use Rattle.mls_hash.proofs.Filling.{leaf_hashed}
use Rattle.mls_hash.proofs.KeptHashing.{right_hash, by_suite, put_stays, kept_parent}
use Rattle.mls_hash.proofs.cached_hashes.+fill.Goals as goal

pub fill-requires-in-Some-Parent : goal.fill-requires-in-Some-Parent
fill-requires-in-Some-Parent t c =
    let part = rw c.in-Some-Parent.field-0-is at c.in-Some-Parent.ensures in (
      omega (
        arith,
        c.decreases,
        right_lower (plain c.args.tree.now) _ _ _ _ _ part,
        ap (λ x. depth (subtree_at 0 x c.in-Some-Parent.right)) c.fill.ensures.tree,
      ),
      c.fill.ensures.kind ∙ c.requires,
    )

pub keep_hash-requires : goal.keep_hash-requires
keep_hash-requires t c =
    let part = rw c.in-Some-Leaf.field-0-is at c.in-Some-Leaf.ensures in
    right_hash c.args.suite _ _ c.args.node_index c.hash_leaf-hash.result c.requires
    (leaf_hashed (hash_of c.args.suite) c.args.tree.now.tree c.args.node_index _ _ c.hash_leaf-hash.result part c.hash_leaf-hash.ensures)

pub keep_hash-requires-in-Some-Parent : goal.keep_hash-requires-in-Some-Parent
keep_hash-requires-in-Some-Parent t c =
    let part = rw c.in-Some-Parent.field-0-is at c.in-Some-Parent.ensures in
    let after = c.fill-in-Some-Parent.ensures.tree ∙ c.fill.ensures.tree in
    right_hash c.args.suite _ _ c.args.node_index c.hash_parent-hash.result (c.fill-in-Some-Parent.ensures.kind ∙ c.fill.ensures.kind ∙ c.requires)
    (ap (λ x. tree_hash_at (hash_of c.args.suite) x c.args.node_index) after
    ∙ kept_parent (hash_of c.args.suite) c.args.tree.now.tree c.fill.new.tree.tree c.fill-in-Some-Parent.new.tree.tree c.args.node_index _ _ _ _ _ part c.fill.ensures.tree
    after _ c.in_ok-left-in-Some-Parent.left c.in_ok-right-in-Some-Parent.right c.hash_parent-hash.result
    c.in_ok-left-in-Some-Parent.ensures.hash c.in_ok-right-in-Some-Parent.ensures.hash c.parent-node.ensures c.empty.ensures c.hash_parent-hash.ensures)

pub returns-in-Some-clause-hash : goal.returns-in-Some-clause-hash
returns-in-Some-clause-hash t c = by_suite c.args.suite _ _ c.args.node_index _ c.requires c.in-Some.ensures.right

pub returns-in-Some-Leaf-clause-stays : goal.returns-in-Some-Leaf-clause-stays
returns-in-Some-Leaf-clause-stays t c =
    put_stays c.args.tree.now.slots c.keep_hash.new.self.slots c.args.node_index c.hash_leaf-hash.result c.keep_hash.ensures.slots c.keep_hash.ensures.filled

pub returns-in_ok-right-in-Some-Parent-clause-hash : goal.returns-in_ok-right-in-Some-Parent-clause-hash
returns-in_ok-right-in-Some-Parent-clause-hash t c =
    let part = rw c.in-Some-Parent.field-0-is at c.in-Some-Parent.ensures in
    let after = c.fill-in-Some-Parent.ensures.tree ∙ c.fill.ensures.tree in
    kept_parent (hash_of c.args.suite) c.args.tree.now.tree c.fill.new.tree.tree c.fill-in-Some-Parent.new.tree.tree c.args.node_index _ _ _ _ _ part c.fill.ensures.tree
    after _ c.in_ok-left-in-Some-Parent.left c.in_ok-right-in-Some-Parent.right c.hash_parent-hash.result
    c.in_ok-left-in-Some-Parent.ensures.hash c.in_ok-right-in-Some-Parent.ensures.hash c.parent-node.ensures c.empty.ensures c.hash_parent-hash.ensures

pub returns-in_ok-right-in-Some-Parent-clause-stays : goal.returns-in_ok-right-in-Some-Parent-clause-stays
returns-in_ok-right-in-Some-Parent-clause-stays t c =
    λ p was. put_stays c.fill-in-Some-Parent.new.tree.slots c.keep_hash-in-Some-Parent.new.self.slots c.args.node_index c.hash_parent-hash.result
    c.keep_hash-in-Some-Parent.ensures.slots c.keep_hash-in-Some-Parent.ensures.filled p (c.fill-in-Some-Parent.ensures.stays p (c.fill.ensures.stays p was))
