use Rattle.std.proofs.Common.{ap, ◌∙◌}
use Rattle.mls_tree.proofs.Lookups.{leaf_at-found, leaf_at-missing}
use Rattle.mls_tree.proofs.node_array.NodeArray.leaf.Goals as goal

pub returns-in-Some : goal.returns-in-Some
returns-in-Some c =
    let at = c.in-Some.ensures.lookup in
    c.as_leaf.ensures
    ∙ leaf_at-found _ _ _ c.args.index c.self.invariant c.args.self.now.tree (ap (λ r. r.tree) c.self.view_is) c.deref.ensures.value c.in-Some.entry.now at.0 at.1

pub returns-in-None : goal.returns-in-None
returns-in-None c =
    let at = c.in-None.ensures.lookup in
    leaf_at-missing _ _ _ c.args.index c.self.invariant c.args.self.now.tree (ap (λ r. r.tree) c.self.view_is) c.deref.ensures.value at.0
