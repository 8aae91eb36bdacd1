use Rattle.std.proofs.Common.{◌≡◌, drop}
use Rattle.mls_strict.specs.ContentForms.{proposal_meets, first_unmet}
use Rattle.mls_strict.proofs.content_forms.first_unmet_by_proposal.Given as goal

abbrev pub invariant-loop-rule : goal.invariant-loop-rule
invariant-loop-rule l =
    first_unmet l.asked (λ r. proposal_meets l.context r l.proposal) (drop l.rule-index l.rules)
    ≡ first_unmet l.asked (λ r. proposal_meets l.context r l.proposal) l.rules
