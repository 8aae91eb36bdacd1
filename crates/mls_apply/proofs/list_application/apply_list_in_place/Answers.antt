use Rattle.std.proofs.Common.{◌∙◌, sym}
use Rattle.std.proofs.lemmas.Bool.{false≢true}
use Rattle.mls_apply.proofs.Outcomes.{outcome-lacking}
use Rattle.mls_apply.proofs.list_application.apply_list_in_place.Goals as goal

pub returns-then-exceeds_capacity-clause-too_many_leaves : goal.returns-then-exceeds_capacity-clause-too_many_leaves
returns-then-exceeds_capacity-clause-too_many_leaves c =
    λ mapped. outcome-lacking c.args.items.now c.args.tree.now.tree (c.exceeds_capacity.ensures.0 c.if-exceeds_capacity.true)

pub apply_items-requires : goal.apply_items-requires
apply_items-requires c = λ h. false≢true (sym c.if-exceeds_capacity.false ∙ c.exceeds_capacity.ensures.1 h)
