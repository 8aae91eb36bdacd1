use Rattle.std.proofs.Common.{◌<◌, ◌≤◌, subst}
use Rattle.mls_nodes.specs.declared.context.GroupContext.{GroupContext}
use Rattle.mls_follow.specs.FollowerModel.{checker_of, state_of}
use Rattle.mls_examine.proofs.InfoSteps.{answered_later, answered_present, answered_unfit_later, answered_unfit_present, same_suite}
use Rattle.mls_examine.proofs.group_infos.check_epoch.Goals as goal

pub returns-then-present-info-clause-fit : goal.returns-then-present-info-clause-fit
returns-then-present-info-clause-fit g c =
    let later = subst (λ (context : GroupContext). context.epoch < c.args.info.now.context.epoch) c.context.ensures c.if-present-info.true in
    answered_later (g.C.SignatureCheck.meaning (checker_of c.args.follower.now)) (state_of c.args.follower.now) c.args.info.now c.requires later
    c.check_later.result c.check_later.ensures.later

pub returns-then-present-info-clause-unfit : goal.returns-then-present-info-clause-unfit
returns-then-present-info-clause-unfit g c =
    let later = subst (λ (context : GroupContext). context.epoch < c.args.info.now.context.epoch) c.context.ensures c.if-present-info.true in
    answered_unfit_later (g.C.SignatureCheck.meaning (checker_of c.args.follower.now)) (state_of c.args.follower.now) c.args.info.now c.requires later
    c.check_later.result c.check_later.ensures.unfit

pub check_current-requires : goal.check_current-requires
check_current-requires g c = same_suite (state_of c.args.follower.now) c.args.info.now c.requires

pub returns-clause-fit : goal.returns-clause-fit
returns-clause-fit g c =
    let at_most = subst (λ (context : GroupContext). c.args.info.now.context.epoch ≤ context.epoch) c.context.ensures c.if-present-info.false in
    answered_present (g.C.SignatureCheck.meaning (checker_of c.args.follower.now)) (state_of c.args.follower.now) c.args.info.now c.requires at_most
    c.check_current.result c.check_current.ensures.no_fault c.check_current.ensures.signed

pub returns-clause-unfit : goal.returns-clause-unfit
returns-clause-unfit g c =
    let at_most = subst (λ (context : GroupContext). c.args.info.now.context.epoch ≤ context.epoch) c.context.ensures c.if-present-info.false in
    answered_unfit_present (g.C.SignatureCheck.meaning (checker_of c.args.follower.now)) (state_of c.args.follower.now) c.args.info.now c.requires at_most
    c.check_current.result c.check_current.ensures.unfit
