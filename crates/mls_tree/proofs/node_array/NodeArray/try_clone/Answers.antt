use Rattle.std.proofs.Common.{ap, ◌∙◌, map}
use Rattle.mls_nodes.specs.NodeValues.{entry_value}
use Rattle.mls_tree.specs.RatchetTreeInternal.{RatchetTree-same}
use Rattle.mls_tree.proofs.Listings.{tree_in-seen, IsArrayOf-seen}
use Rattle.mls_tree.proofs.node_array.NodeArray.try_clone.Goals as goal

pub invariant_of-result-2 : goal.invariant_of-result-2
invariant_of-result-2 c =
    IsArrayOf-seen c.in-Ok.nodes.items c.self.inside.nodes.items (c.in-Ok.ensures.same ∙ ap (λ v. map entry_value v) c.as_slice.ensures.value) c.self.inside.height c.self.invariant

pub returns : goal.returns
returns c =
    RatchetTree-same _ _
    (tree_in-seen c.in-Ok.nodes.items c.self.inside.nodes.items (c.in-Ok.ensures.same ∙ ap (λ v. map entry_value v) c.as_slice.ensures.value) c.self.inside.height 0 ∙ ap (λ r. r.tree) c.self.view_is)
