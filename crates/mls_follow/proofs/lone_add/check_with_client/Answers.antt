use Rattle.std.proofs.Common.{◌≡◌, true, rules}
use Rattle.std.proofs.lemmas.Result.{err_from_is_err_and}
use Rattle.mls_check.specs.DistinctKeys.{has_distinct_keys}
use Rattle.mls_follow.proofs.LoneAdding.{members_fail, members_fit}
use Rattle.mls_follow.proofs.lone_add.check_with_client.Goals as goal

pub returns-in_err-check_members-clause-refused : goal.returns-in_err-check_members-clause-refused
returns-in_err-check_members-clause-refused c =
    let p = err_from_is_err_and c.from_residual.result c.from_residual.ensures.1 in
    let distinct : has_distinct_keys c.args.tree.now.tree ≡ true = search rules in
    λ added.
    rw (p.1, p.2)
    (members_fail c.args.rules.now.context.now c.args.rules.now.required.now c.args.tree.now.tree added distinct
    c.in_err-check_members.field-0.0 c.in_err-check_members.ensures.fault)

pub returns-clause-fits : goal.returns-clause-fits
returns-clause-fits c =
    let distinct : has_distinct_keys c.args.tree.now.tree ≡ true = search rules in
    λ added.
    members_fit c.args.rules.now.context.now c.args.rules.now.required.now c.args.tree.now.tree added distinct
    c.in_ok-check_members.ensures.members
