use Rattle.std.proofs.Common.{rules, sym, ◌≡◌, ◌∙◌, true}
use Rattle.std.specs.Prelude.{nat_lt}
use Rattle.std.proofs.lemmas.Result.{err_from_is_err_and}
use Rattle.mls_tree.proofs.Choices.{is_less}
use Rattle.mls_apply.specs.JoinRules.{join_refusal}
use Rattle.mls_follow.specs.State.{last_epoch}
use Rattle.mls_follow.specs.GroupModel.{group_state}
use Rattle.mls_follow.proofs.Committing.{join_failed}
use Rattle.mls_follow.proofs.commit_changes.check_join_items.Goals as goal

-- the list fails a rule
pub returns-in_err-check_join-clause-refused : goal.returns-in_err-check_join-clause-refused
returns-in_err-check_join-clause-refused c =
    let p = err_from_is_err_and c.from_residual.result c.from_residual.ensures.1 in
    let group = c.args.group.now in
    let later : nat_lt group.context.epoch last_epoch ≡ true = is_less group.context.epoch last_epoch (search rules) in
    rw (p.1, p.2) (λ own G.
    join_failed G (group_state group) group.required c.args.commit.now c.requires later c.in_err-check_join.field-0.0
    ((λ i. join_refusal group.context (sym c.tree.ensures i) c.args.commit.now) ∙ c.in_err-check_join.ensures.refused own))
