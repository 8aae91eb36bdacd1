use Rattle.std.proofs.Common.{rules, ◌≡◌, ◌∙◌, [], sym, ap}
use Rattle.std.proofs.lemmas.Result.{err_from_is_err_and}
use Rattle.mls_follow.specs.FollowerModel.{checker_of, state_of}
use Rattle.mls_examine.specs.GroupInfos.{unaccepted}
use Rattle.mls_examine.proofs.InfoSteps.{broken_started}
use Rattle.mls_examine.proofs.later_infos.check_started.Goals as goal

pub returns-in_err-check_vouching-clause-unfit : goal.returns-in_err-check_vouching-clause-unfit
returns-in_err-check_vouching-clause-unfit g c =
    let p = err_from_is_err_and c.from_residual.result c.from_residual.ensures.1 in
    rw (p.1, p.2)
    (λ own.
    broken_started (g.C.SignatureCheck.meaning (checker_of c.args.follower.now)) (state_of c.args.follower.now) c.args.info.now c.args.new.now.tree _
    c.in_err-check_vouching.ensures.broken_rule)

pub returns-then-not-is_empty-clause-unfit : goal.returns-then-not-is_empty-clause-unfit
returns-then-not-is_empty-clause-unfit g c =
    let some : c.in_ok-unaccepted.unaccepted ≡ [] → ⊥ = λ e. search rules in
    let same = (rw c.checker.ensures at c.in_ok-unaccepted.ensures) ∙ ap (unaccepted (g.C.SignatureCheck.meaning (checker_of c.args.follower.now))) c.in_ok-list.ensures in
    λ _. (c.in_ok-check_vouching.ensures.rules_hold, some, same)

pub returns-clause-vouches : goal.returns-clause-vouches
returns-clause-vouches g c =
    let none : c.in_ok-unaccepted.unaccepted ≡ [] = search rules in
    let same = (rw c.checker.ensures at c.in_ok-unaccepted.ensures) ∙ ap (unaccepted (g.C.SignatureCheck.meaning (checker_of c.args.follower.now))) c.in_ok-list.ensures in
    record { no_fault = c.in_ok-check_vouching.ensures.rules_hold; signed = sym same ∙ none }
