use Rattle.std.proofs.Common.{rules, sym, ◌∙◌, ◌≡◌, true}
use Rattle.std.specs.Prelude.{nat_lt}
use Rattle.std.proofs.lemmas.Result.{err_from_is_err_and}
use Rattle.mls_tree.proofs.Choices.{is_less}
use Rattle.mls_msgs.specs.declared.framed_content.Sender.TheVariants.{Member}
use Rattle.mls_apply.specs.ListRules.{list_refusal}
use Rattle.mls_follow.specs.State.{last_epoch}
use Rattle.mls_follow.specs.GroupModel.{group_state}
use Rattle.mls_follow.specs.GroupModelInternal.{with_known}
use Rattle.mls_follow.proofs.Committing.{inline_failed, list_failed}
use Rattle.mls_follow.proofs.commit_changes.check_items.Goals as goal

-- a proposal by value fails a rule
pub returns-in_err-check_inline-clause-refused : goal.returns-in_err-check_inline-clause-refused
returns-in_err-check_inline-clause-refused g c =
    let p = err_from_is_err_and c.from_residual-in_err-check_inline.result c.from_residual-in_err-check_inline.ensures.1 in
    let group = c.args.group.now in
    let later : nat_lt group.context.epoch last_epoch ≡ true = is_less group.context.epoch last_epoch (search rules) in
    rw (p.1, p.2) (λ not_memory. inline_failed
    (g.C.SignatureCheck.meaning c.args.checker.now) (with_known (group_state group) c.args.received.now.known.now) group.required
    c.args.received.now.committer c.args.received.now.commit.now later c.in_ok-items.items.items c.in_ok-items.ensures.items
    c.in_err-check_inline.field-0.0 (c.in_err-check_inline.ensures.refused not_memory))

-- the list fails a rule
pub returns-in_err-check_list-clause-refused : goal.returns-in_err-check_list-clause-refused
returns-in_err-check_list-clause-refused g c =
    let p = err_from_is_err_and c.from_residual-in_err-check_list.result c.from_residual-in_err-check_list.ensures.1 in
    let group = c.args.group.now in
    let later : nat_lt group.context.epoch last_epoch ≡ true = is_less group.context.epoch last_epoch (search rules) in
    rw (p.1, p.2) (λ not_memory. list_failed
    (g.C.SignatureCheck.meaning c.args.checker.now) (with_known (group_state group) c.args.received.now.known.now) group.required
    c.args.received.now.committer c.args.received.now.commit.now later c.in_ok-items.items.items c.in_ok-items.ensures.items c.in_ok-check_inline.ensures.rules_hold
    c.in_err-check_list.field-0.0
    ((λ i. list_refusal (Member c.args.received.now.committer) (sym c.as_slice.ensures.value i) (sym c.is_some.ensures i)) ∙ c.in_err-check_list.ensures.refused not_memory))
