use Rattle.std.proofs.Common.{◌∙◌}
use Rattle.std.specs.Prelude.{option_map, unwrap_or}
use Rattle.mls_follow.proofs.Supporting.{none_of, required_found, required_leaves}
use Rattle.mls_follow.proofs.strict_rules.supports_extensions.Goals as goal

pub first_unmet-requires-clause-rules_hold : goal.first_unmet-requires-clause-rules_hold
first_unmet-requires-clause-rules_hold g c =
    required_leaves c.args.rules.now.context.now.extensions c.required-former.result.now (c.required-former.ensures ∙ c.args.rules.now.same_types) c.args.tree.now.base
    ∙ c.requires.supported

pub returns : goal.returns
returns g c =
    none_of c.in_ok-unmet.unmet c.is_none.result c.is_none.ensures
    ∙ required_found (unwrap_or (option_map (λ next. next.extensions) c.args.staged.now.extensions) c.args.rules.now.context.now.extensions)
    c.types_after-after.result.required.now c.types_after-after.ensures.required c.args.tree.now.tree c.in_ok-unmet.unmet c.in_ok-unmet.ensures
