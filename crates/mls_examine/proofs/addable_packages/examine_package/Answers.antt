use Rattle.std.proofs.Common.{ap}
use Rattle.std.proofs.lemmas.Result.{err_from_is_err_and}
use Rattle.mls_follow.specs.FollowerModel.{checker_of, state_of}
use Rattle.mls_examine.specs.AddablePackages.{unfit_add}
use Rattle.mls_examine.proofs.Adding.{add_is_reason, answered_addable, answered_unfit, fit_is_reason}
use Rattle.mls_examine.proofs.addable_packages.examine_package.Goals as goal

pub returns-in_err-lifetime-clause-unfit : goal.returns-in_err-lifetime-clause-unfit
returns-in_err-lifetime-clause-unfit g c =
    let p = err_from_is_err_and c.from_residual.result c.from_residual.ensures.1 in
    rw (p.1, p.2)
    (λ own.
    fit_is_reason (g.C.SignatureCheck.meaning (checker_of c.args.follower.now)) (state_of c.args.follower.now) c.args.key_package.now _
    c.in_err-lifetime.ensures.broken_rule)

pub returns-in_err-check_add-clause-unfit : goal.returns-in_err-check_add-clause-unfit
returns-in_err-check_add-clause-unfit g c =
    let p = err_from_is_err_and c.from_residual-in_err-check_add.result c.from_residual-in_err-check_add.ensures.1 in
    rw (p.1, p.2)
    (λ own.
    add_is_reason (g.C.SignatureCheck.meaning (checker_of c.args.follower.now)) (state_of c.args.follower.now) c.args.key_package.now
    c.in_ok-lifetime.ensures.rules_hold c.in_err-check_add.field-0.0 (λ e. own (ap unfit_add e)) (c.in_err-check_add.ensures.unfit (λ e. own (ap unfit_add e))))

pub returns-clause-addable : goal.returns-clause-addable
returns-clause-addable g c =
    let G = g.C.SignatureCheck.meaning in
    answered_addable (G (checker_of c.args.follower.now)) (G (checker_of c.check_add.new.self)) (state_of c.args.follower.now) (state_of c.check_add.new.self)
    c.args.key_package.now c.check_add.ensures.state (ap G c.check_add.ensures.checker) c.in_ok-lifetime.ensures.rules_hold c.in_ok-check_add.ensures.fits
    c.check_form.result c.check_form.ensures.rules_hold c.check_form.ensures.signed

pub returns-clause-unfit : goal.returns-clause-unfit
returns-clause-unfit g c =
    let G = g.C.SignatureCheck.meaning in
    answered_unfit (G (checker_of c.args.follower.now)) (G (checker_of c.check_add.new.self)) (state_of c.args.follower.now) (state_of c.check_add.new.self)
    c.args.key_package.now c.check_add.ensures.state (ap G c.check_add.ensures.checker) c.in_ok-lifetime.ensures.rules_hold c.in_ok-check_add.ensures.fits
    c.check_form.result c.check_form.ensures.unfit
