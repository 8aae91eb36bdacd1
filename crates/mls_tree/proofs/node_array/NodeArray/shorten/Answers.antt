use Rattle.std.proofs.Common.{◌≤◌, ap, ◌∙◌, sym, subst, arith}
use Rattle.mls_tree.specs.Tree.{height}
use Rattle.mls_tree.specs.NodeArray.{IsArrayOf, tree_in, height-tree_in}
use Rattle.mls_tree.specs.TreeOperations.{front_subtree}
use Rattle.mls_tree.proofs.Growing.{IsArrayOf-take, tree_in-take}
use Rattle.mls_tree.proofs.Rejoining.{tree_in-front}
use Rattle.mls_tree.proofs.node_array.NodeArray.shorten.Goals as goal

pub invariant_of-self : goal.invariant_of-self
invariant_of-self c =
    let xs = c.self.inside.nodes.items in
    let h = c.self.inside.height in
    let low : c.args.level ≤ h = omega (arith, c.requires, ap (λ r. height r.tree) c.self.view_is, height-tree_in xs h 0) in
    subst (λ xs. IsArrayOf xs c.args.level) (sym c.truncate.ensures.items) (IsArrayOf-take xs h c.args.level low c.self.invariant c.leaves_of.result c.leaves_of.ensures.value)

pub returns : goal.returns
returns c =
    let xs = c.self.inside.nodes.items in
    let h = c.self.inside.height in
    let low : c.args.level ≤ h = omega (arith, c.requires, ap (λ r. height r.tree) c.self.view_is, height-tree_in xs h 0) in
    ap (λ xs. tree_in xs c.args.level 0) c.truncate.ensures.items
    ∙ tree_in-take xs h c.args.level low c.self.invariant c.leaves_of.result c.leaves_of.ensures.value
    ∙ tree_in-front xs c.args.level h low
    ∙ ap (λ r. front_subtree c.args.level r.tree) c.self.view_is
