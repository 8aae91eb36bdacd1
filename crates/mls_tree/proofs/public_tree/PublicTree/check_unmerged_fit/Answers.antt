use Rattle.std.proofs.Common.{◌∙◌, ap, sym, Err}
use Rattle.mls_tree.proofs.Refusals.{handed_on, err_same}
use Rattle.mls_tree.proofs.MergedParents.{overfills-below}
use Rattle.mls_tree.proofs.public_tree.PublicTree.check_unmerged_fit.Goals as goal

pub returns-in_err-new_parents-clause-too_many_leaves : goal.returns-in_err-new_parents-clause-too_many_leaves
returns-in_err-new_parents-clause-too_many_leaves c h =
    let many = err_same _ _ _ (sym (handed_on c.from_residual.result c.in_err-new_parents.field-0.0 c.from_residual.ensures.0 c.from_residual.ensures.1) ∙ h) in
    overfills-below c.args.indices.now c.args.self.now.tree ∙ c.in_err-new_parents.ensures.too_many_leaves (ap (λ e. Err e) many)

pub returns-clause-fits : goal.returns-clause-fits
returns-clause-fits c = overfills-below c.args.indices.now c.args.self.now.tree ∙ c.in_ok-new_parents.ensures.fits
