use Rattle.std.proofs.Common.{◌∙◌, ap, map}
use Rattle.mls_nodes.specs.NodeValues.{entry_value}
use Rattle.mls_tree.specs.Tree.{listing}
use Rattle.mls_tree.proofs.Arrays.{listing-array}
use Rattle.mls_tree.proofs.node_array.NodeArray.nodes.Goals as goal

pub returns : goal.returns
returns c = ap (λ v. map entry_value v) c.as_slice.ensures.value ∙ listing-array _ _ c.self.invariant ∙ ap (λ r. listing r.tree) c.self.view_is
