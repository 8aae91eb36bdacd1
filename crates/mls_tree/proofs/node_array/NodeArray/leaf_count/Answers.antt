use Rattle.std.proofs.Common.{◌∙◌, sym, ap}
use Rattle.mls_tree.specs.Tree.{leaf_count}
use Rattle.mls_tree.proofs.Arrays.{leaf_count-tree_in}
use Rattle.mls_tree.proofs.node_array.NodeArray.leaf_count.Goals as goal

pub returns : goal.returns
returns c = c.leaves_of.ensures.value ∙ sym (leaf_count-tree_in c.self.inside.nodes.items c.self.inside.height 0) ∙ ap (λ r. leaf_count r.tree) c.self.view_is
