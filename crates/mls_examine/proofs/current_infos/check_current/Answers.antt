use Rattle.std.proofs.lemmas.Result.{err_from_is_err_and}
use Rattle.mls_follow.specs.FollowerModel.{checker_of, state_of}
use Rattle.mls_examine.proofs.InfoSteps.{answered_current, answered_faultless, context_is_reason, epoch_is_reason, part_is_reason, signer_set}
use Rattle.mls_examine.proofs.current_infos.check_current.Goals as goal

pub returns-in_err-check_context-clause-unfit : goal.returns-in_err-check_context-clause-unfit
returns-in_err-check_context-clause-unfit g c =
    let p = err_from_is_err_and c.from_residual.result c.from_residual.ensures.1 in
    rw (p.1, p.2)
    (λ own.
    context_is_reason (g.C.SignatureCheck.meaning (checker_of c.args.follower.now)) (state_of c.args.follower.now) c.args.info.now _
    c.in_err-check_context.ensures.broken_rule)

pub returns-in_err-check_epoch-clause-unfit : goal.returns-in_err-check_epoch-clause-unfit
returns-in_err-check_epoch-clause-unfit g c =
    let p = err_from_is_err_and c.from_residual-in_err-check_epoch.result c.from_residual-in_err-check_epoch.ensures.1 in
    rw (p.1, p.2)
    (λ own.
    epoch_is_reason (g.C.SignatureCheck.meaning (checker_of c.args.follower.now)) (state_of c.args.follower.now) c.args.info.now
    c.in_ok-check_context.ensures.rules_hold _ (c.in_err-check_epoch.ensures.broken_rule own))

pub returns-in_err-check_parts-clause-unfit : goal.returns-in_err-check_parts-clause-unfit
returns-in_err-check_parts-clause-unfit g c =
    let p = err_from_is_err_and c.from_residual-in_err-check_parts.result c.from_residual-in_err-check_parts.ensures.1 in
    rw (p.1, p.2)
    (λ own.
    part_is_reason (g.C.SignatureCheck.meaning (checker_of c.args.follower.now)) (state_of c.args.follower.now) c.args.info.now
    c.in_ok-check_context.ensures.rules_hold c.in_ok-check_epoch.ensures.rules_hold _ c.in_err-check_parts.ensures.broken_rule)

pub check_signature-requires : goal.check_signature-requires
check_signature-requires g c = signer_set (state_of c.args.follower.now) c.args.info.now c.in_ok-check_epoch.ensures.rules_hold

pub returns-clause-no_fault : goal.returns-clause-no_fault
returns-clause-no_fault g c =
    answered_faultless (g.C.SignatureCheck.meaning (checker_of c.args.follower.now)) (state_of c.args.follower.now) c.args.info.now
    c.in_ok-check_context.ensures.rules_hold c.in_ok-check_epoch.ensures.rules_hold c.in_ok-check_parts.ensures.rules_hold
    c.check_signature.result c.check_signature.ensures.content

pub returns-clause-unfit : goal.returns-clause-unfit
returns-clause-unfit g c =
    answered_current (g.C.SignatureCheck.meaning (checker_of c.args.follower.now)) (state_of c.args.follower.now) c.args.info.now
    c.in_ok-check_context.ensures.rules_hold c.in_ok-check_epoch.ensures.rules_hold c.in_ok-check_parts.ensures.rules_hold
    c.check_signature.result c.check_signature.ensures.unfit
