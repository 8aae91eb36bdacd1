use Rattle.std.proofs.Common.{◌≡◌, drop}
use Rattle.mls_strict.specs.ContentForms.{package_meets, first_unmet}
use Rattle.mls_strict.proofs.content_forms.first_unmet_by_package.Given as goal

abbrev pub invariant-loop-rule : goal.invariant-loop-rule
invariant-loop-rule l =
    first_unmet l.asked (λ r. package_meets l.version l.suite r l.key_package) (drop l.rule-index l.rules)
    ≡ first_unmet l.asked (λ r. package_meets l.version l.suite r l.key_package) l.rules
