use Rattle.std.proofs.Common.{ap, ◌∙◌, arith, ◌++◌}
use Rattle.mls_tree.specs.Paths.{direct_path}
use Rattle.mls_tree.specs.NodeArray.{tree_in, tree_in-perfect, height-tree_in}
use Rattle.mls_tree.proofs.Numbers.{leaves_at-low}
use Rattle.mls_tree.proofs.node_array.NodeArray.direct_path.Goals as goal

pub push_direct_path-requires-clause-inside : goal.push_direct_path-requires-clause-inside
push_direct_path-requires-clause-inside c = omega (arith, leaves_at-low c.self.inside.height c.self.inside.low)

pub returns-clause-node_indices : goal.returns-clause-node_indices
returns-clause-node_indices c =
    let xs = c.self.inside.nodes.items in
    c.in_ok-push_direct_path.ensures _ (tree_in-perfect xs c.self.inside.height 0) (height-tree_in xs c.self.inside.height 0) ∙ ap (λ v. v ++ direct_path 0 (tree_in xs c.self.inside.height 0) c.args.leaf) c.new-out.ensures.items ∙ ap (λ r. direct_path 0 r.tree c.args.leaf) c.self.view_is
