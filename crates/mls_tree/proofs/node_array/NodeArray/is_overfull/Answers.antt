use Rattle.std.proofs.Common.{ap, ◌∙◌, arith}
use Rattle.mls_tree.specs.NodeArray.{tree_in}
use Rattle.mls_tree.specs.TreeOperations.{is_overfilled_above}
use Rattle.mls_tree.proofs.Numbers.{leaves_at-low}
use Rattle.mls_tree.proofs.node_array.NodeArray.is_overfull.Goals as goal

pub is_overfilled_above-requires-clause-inside : goal.is_overfilled_above-requires-clause-inside
is_overfilled_above-requires-clause-inside c = omega (arith, leaves_at-low c.self.inside.height c.self.inside.low)

pub returns : goal.returns
returns c =
    c.is_overfilled_above.ensures
    ∙ ap (λ xs. is_overfilled_above 0 (tree_in xs c.self.inside.height 0) c.args.index) c.as_slice.ensures.value
    ∙ ap (λ r. is_overfilled_above 0 r.tree c.args.index) c.self.view_is
