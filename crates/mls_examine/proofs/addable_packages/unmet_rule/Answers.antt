use Rattle.std.proofs.Common.{◌∙◌}
use Rattle.mls_strict.specs.ContentForms.{package_refusal}
use Rattle.mls_follow.specs.FollowerModel.{state_of}
use Rattle.mls_examine.proofs.GroupStrict.{refusal_by}
use Rattle.mls_examine.proofs.addable_packages.unmet_rule.Goals as goal

pub returns : goal.returns
returns g c =
    let s = state_of c.args.follower.now in
    let k = c.args.key_package.now in
    c.with_support.ensures
    ∙ refusal_by s.rules s.context k c.package_refusal-unmet.result c.in_ok-met.met
    (c.package_refusal-unmet.ensures ∙ (λ i. package_refusal (c.rules.ensures i) (c.suite.ensures i) (c.context.ensures i).version k))
    c.in_ok-met.ensures
