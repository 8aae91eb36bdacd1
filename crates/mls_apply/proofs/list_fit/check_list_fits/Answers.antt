use Rattle.std.proofs.Common.{◌∙◌, sym}
use Rattle.std.proofs.lemmas.Bool.{false≢true}
use Rattle.mls_apply.proofs.Outcomes.{outcome-lacking}
use Rattle.mls_apply.proofs.list_fit.check_list_fits.Goals as goal

pub returns-then-exceeds_capacity-clause-too_many_leaves : goal.returns-then-exceeds_capacity-clause-too_many_leaves
returns-then-exceeds_capacity-clause-too_many_leaves c =
    λ mapped. outcome-lacking c.args.items.now c.args.tree.now.tree (c.exceeds_capacity.ensures.0 c.if-exceeds_capacity.true)

pub fit_items-requires : goal.fit_items-requires
fit_items-requires c = λ h. false≢true (sym c.if-exceeds_capacity.false ∙ c.exceeds_capacity.ensures.1 h)
