use Rattle.std.proofs.Common.{ap, arith, refl, ◌≤◌}
use Rattle.mls_tree.specs.Tree.{leaf_count}
use Rattle.mls_tree.proofs.Lookups.{leaf_count-seen}
use Rattle.mls_tree.proofs.Refusals.{no_refusal-ok}
use Rattle.mls_tree.proofs.node_array.NodeArray.blank_path.Goals as goal

pub returns-then-index-leaves_of-clause-no_such_node : goal.returns-then-index-leaves_of-clause-no_such_node
returns-then-index-leaves_of-clause-no_such_node c =
    let count = leaf_count-seen _ _ c.self.invariant c.args.self.now.tree (ap (λ r. r.tree) c.self.view_is) in
    (λ refused. omega (arith, c.leaves_of.ensures.value), λ past. refl)

pub returns-clause-no_such_node : goal.returns-clause-no_such_node
returns-clause-no_such_node c =
    let count = leaf_count-seen _ _ c.self.invariant c.args.self.now.tree (ap (λ r. r.tree) c.self.view_is) in
    no_refusal-ok _ _ (leaf_count c.args.self.now.tree ≤ c.args.index) (λ past. omega (arith, c.leaves_of.ensures.value))
