use Rattle.std.proofs.Common.{◌∙◌, sym, ap, subst}
use Rattle.mls_nodes.specs.Requirements.{RequiresBy}
use Rattle.mls_nodes.specs.declared.context.GroupContext.{GroupContext}
use Rattle.mls_strict.specs.LeafForms.{requires_types}
use Rattle.mls_follow.proofs.resume.bare_group.Goals as goal

pub invariant_of-result-clause-requires_these : goal.invariant_of-result-clause-requires_these
invariant_of-result-clause-requires_these c =
    subst (λ (x : GroupContext). RequiresBy x.extensions c.args.found.required) (sym c.in-Ok.ensures) c.requires.required

pub invariant_of-result-clause-same_types : goal.invariant_of-result-clause-same_types
invariant_of-result-clause-same_types c = c.requires.types ∙ ap (λ (x : GroupContext). requires_types x.extensions) (sym c.in-Ok.ensures)
