use Rattle.std.proofs.Common.{◌≡◌, ◌∙◌, sym, subst, arith}
use Rattle.mls_tree.specs.TreeOperations.{truncate}
use Rattle.mls_tree.specs.PublicTreeModel.{KeptTree}
use Rattle.mls_tree.proofs.Fronts.{front-whole}
use Rattle.mls_tree.proofs.public_tree.PublicTree.truncated_height.Goals as goal

pub returns-then-level-height-clause-unchanged : goal.returns-then-level-height-clause-unchanged
returns-then-level-height-clause-unchanged c =
    let t = c.self.inside.tree.tree in
    let level = c.truncated_height-level in
    λ none. subst (λ (v : KeptTree). truncate v.tree ≡ v.tree) c.self.view_is (sym level.ensures.front ∙ front-whole level.result t (omega (arith, c.if-level-height.true, c.height.ensures.value)))
