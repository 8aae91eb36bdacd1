use Rattle.std.proofs.Common.{◌≡◌, ◌-◌, ap, ◌∙◌, sym, arith}
use Rattle.mls_tree.specs.Tree.{height}
use Rattle.mls_tree.specs.NodeArray.{height-tree_in}
use Rattle.mls_tree.specs.TreeOperations.{front_subtree}
use Rattle.mls_tree.proofs.Fronts.{left-front}
use Rattle.mls_tree.proofs.node_array.NodeArray.cut.Goals as goal

pub shorten-requires : goal.shorten-requires
shorten-requires c = omega (arith, height-tree_in c.self.inside.nodes.items c.self.inside.height 0, ap (λ r. height r.tree) c.self.view_is)

pub returns : goal.returns
returns c =
    let t = c.args.self.now.tree in
    let at : c.self.inside.height - 1 ≡ height t - 1 = omega (arith, height-tree_in c.self.inside.nodes.items c.self.inside.height 0, ap (λ r. height r.tree) c.self.view_is) in
    c.shorten.ensures ∙ ap (λ k. front_subtree k t) at ∙ sym (left-front t)
