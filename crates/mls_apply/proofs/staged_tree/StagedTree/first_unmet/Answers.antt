use Rattle.std.proofs.Common.{◌≡◌, ◌∙◌, true, subst}
use Rattle.std.specs.Prelude.{IfOk}
use Rattle.mls_nodes.specs.declared.required_capabilities.RequiredCapabilities.{RequiredCapabilities}
use Rattle.mls_check.specs.LeafValidation.{all_leaves, FindsFailing, supports_required}
use Rattle.mls_apply.specs.Staged.{Staged}
use Rattle.mls_apply.proofs.Staging.{requirements_kept, requirements_found}
use Rattle.mls_apply.proofs.staged_tree.StagedTree.first_unmet.Goals as goal

pub first_failing-requires-clause-rules_hold : goal.first_failing-requires-clause-rules_hold
first_failing-requires-clause-rules_hold g c =
    let same = c.same_requirements.ensures.0 c.if-same_requirements.true ∙ c.required.ensures in
    requirements_kept (g.C.SignatureCheck.meaning c.args.rules.now.checker.now) c.args.rules.now.context.now c.args.rules.now.required.now c.args.self.now.base
    (subst (λ (r : RequiredCapabilities). all_leaves (λ _ x. supports_required r x) 0 c.args.self.now.base ≡ true) same c.requires.rules_hold)

pub returns-then-same_requirements : goal.returns-then-same_requirements
returns-then-same_requirements g c =
    requirements_found (g.C.SignatureCheck.meaning c.args.rules.now.checker.now) c.args.rules.now.context.now c.args.rules.now.required.now c.args.self.now.tree
    c.first_failing.result c.first_failing.ensures

pub returns : goal.returns
returns g c =
    subst (λ (v : Staged). IfOk c.first_unmet.result (FindsFailing (λ _ x. supports_required c.args.rules.now.required.now x) v.tree)) c.self.view_is
    c.first_unmet.ensures
