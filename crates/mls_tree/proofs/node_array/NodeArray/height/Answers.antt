use Rattle.std.proofs.Common.{◌∙◌, sym, ap}
use Rattle.mls_tree.specs.Tree.{height}
use Rattle.mls_tree.specs.NodeArray.{height-tree_in}
use Rattle.mls_tree.proofs.node_array.NodeArray.height.Goals as goal

pub returns-clause-value : goal.returns-clause-value
returns-clause-value c = sym (height-tree_in c.self.inside.nodes.items c.self.inside.height 0) ∙ ap (λ r. height r.tree) c.self.view_is
