use Rattle.std.proofs.Common.{ap, arith}
use Rattle.mls_tree.proofs.Lookups.{IsArrayOf-set_leaf, leaf_count-seen, set_leaf-seen}
use Rattle.mls_tree.proofs.node_array.NodeArray.set_leaf.Goals as goal

pub returns-then-index-leaves_of-clause-no_such_node : goal.returns-then-index-leaves_of-clause-no_such_node
returns-then-index-leaves_of-clause-no_such_node c =
    let count = leaf_count-seen _ _ c.self.invariant c.args.self.now.tree (ap (λ r. r.tree) c.self.view_is) in
    (λ refused. omega arith, λ past. cc)

pub invariant_of-self : goal.invariant_of-self
invariant_of-self c = IsArrayOf-set_leaf _ _ c.args.index c.leaf_entry.result c.self.invariant c.leaf_entry.ensures.no_parent (omega (arith, c.self.invariant.long))

pub returns-clause-changed : goal.returns-clause-changed
returns-clause-changed c =
    set_leaf-seen _ _ c.self.invariant _ (ap (λ r. r.tree) c.self.view_is) c.args.index c.leaf_entry.result _ (omega arith) c.leaf_entry.ensures.part

pub returns-clause-no_such_node : goal.returns-clause-no_such_node
returns-clause-no_such_node c =
    let count = leaf_count-seen _ _ c.self.invariant c.args.self.now.tree (ap (λ r. r.tree) c.self.view_is) in
    (λ refused. absurd (cc), λ past. absurd (omega arith))
