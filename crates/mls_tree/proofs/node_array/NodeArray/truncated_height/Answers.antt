use Rattle.std.proofs.Common.{◌≡◌, ap, ◌∙◌, sym, arith}
use Rattle.mls_tree.specs.Tree.{height}
use Rattle.mls_tree.specs.NodeArray.{tree_in}
use Rattle.mls_tree.specs.TreeOperations.{truncate, front_subtree}
use Rattle.mls_tree.proofs.Kept.{height-truncate}
use Rattle.mls_tree.proofs.Fronts.{truncate-front}
use Rattle.mls_tree.proofs.node_array.NodeArray.truncated_height.Goals as goal

pub returns-clause-front : goal.returns-clause-front
returns-clause-front c =
    let t = c.args.self.now.tree in
    let at : tree_in c.as_slice.result.now c.self.inside.height 0 ≡ t = ap (λ v. tree_in v c.self.inside.height 0) c.as_slice.ensures.value ∙ ap (λ r. r.tree) c.self.view_is in
    ap (λ k. front_subtree k t) (c.truncated_height.ensures ∙ ap (λ v. height (truncate v)) at) ∙ sym (truncate-front t)

pub returns-clause-low : goal.returns-clause-low
returns-clause-low c =
    let t = c.args.self.now.tree in
    let at : tree_in c.as_slice.result.now c.self.inside.height 0 ≡ t = ap (λ v. tree_in v c.self.inside.height 0) c.as_slice.ensures.value ∙ ap (λ r. r.tree) c.self.view_is in
    omega (arith, c.truncated_height.ensures, ap (λ v. height (truncate v)) at, height-truncate t)
