use Rattle.std.proofs.Common.{◌≡◌, drop}
use Rattle.mls_strict.specs.ContentForms.{content_meets, first_unmet}
use Rattle.mls_strict.proofs.content_forms.first_unmet.Given as goal

abbrev pub invariant-loop-rule : goal.invariant-loop-rule
invariant-loop-rule l =
    first_unmet l.asked (λ r. content_meets l.context r l.content) (drop l.rule-index l.rules)
    ≡ first_unmet l.asked (λ r. content_meets l.context r l.content) l.rules
