use Rattle.std.proofs.Common.{ap}
use Rattle.mls_tree.proofs.Lookups.{node_at-found, node_at-missing}
use Rattle.mls_tree.proofs.node_array.NodeArray.node.Goals as goal

pub returns-in-Some : goal.returns-in-Some
returns-in-Some c =
    let at = c.in-Some.ensures.lookup in
    node_at-found _ _ _ c.args.node_index c.self.invariant c.args.self.now.tree (ap (λ r. r.tree) c.self.view_is) c.deref.ensures.value c.in-Some.entry.now c.as_ref.result at.0 at.1 c.as_ref.ensures.value

pub returns-in-None : goal.returns-in-None
returns-in-None c =
    let at = c.in-None.ensures.lookup in
    node_at-missing _ _ _ c.args.node_index c.self.invariant c.args.self.now.tree (ap (λ r. r.tree) c.self.view_is) c.deref.ensures.value at.0
