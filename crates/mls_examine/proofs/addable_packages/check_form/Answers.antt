use Rattle.std.proofs.Common.{rules, ◌≡◌, ◌∙◌, [], sym}
use Rattle.std.proofs.lemmas.Result.{err_from_is_err_and}
use Rattle.mls_follow.specs.FollowerModel.{checker_of, state_of}
use Rattle.mls_examine.proofs.Adding.{all_signed, form_holds, not_all_signed, strict_unmet, unreferenced_fault}
use Rattle.mls_examine.proofs.addable_packages.check_form.Goals as goal

pub returns-in-Some-clause-unfit : goal.returns-in-Some-clause-unfit
returns-in-Some-clause-unfit g c =
    λ _. strict_unmet (g.C.SignatureCheck.meaning (checker_of c.args.follower.now)) (state_of c.args.follower.now) c.args.key_package.now
    c.in-Some.rule (sym c.in_ok-rule.ensures ∙ c.in-Some.is)

pub returns-in_err-reference-clause-unfit : goal.returns-in_err-reference-clause-unfit
returns-in_err-reference-clause-unfit g c =
    let p = err_from_is_err_and c.from_residual-in_err-reference.result c.from_residual-in_err-reference.ensures.1 in
    rw (p.1, p.2)
    (unreferenced_fault (g.C.SignatureCheck.meaning (checker_of c.args.follower.now)) (state_of c.args.follower.now) c.args.key_package.now
    (sym c.in_ok-rule.ensures ∙ c.in_default.is) c.requires.supported c.in_err-reference.field-0.0 c.in_err-reference.ensures.unsupported c.in_err-reference.ensures.too_long)

pub returns-then-not-is_empty-clause-unfit : goal.returns-then-not-is_empty-clause-unfit
returns-then-not-is_empty-clause-unfit g c =
    let G = g.C.SignatureCheck.meaning (checker_of c.args.follower.now) in
    let s = state_of c.args.follower.now in
    let k = c.args.key_package.now in
    let none = sym c.in_ok-rule.ensures ∙ c.in_default.is in
    let some : c.in_ok-unaccepted.unaccepted ≡ [] → ⊥ = λ e. search rules in
    let same = rw c.checker.ensures at c.in_ok-unaccepted.ensures in
    λ _. (
      form_holds G s k none c.in_ok-reference.reference c.in_ok-reference.ensures.value,
      not_all_signed G s k none c.requires.from_package c.in_ok-reference.reference c.in_ok-reference.ensures.value
          (λ e. some (same ∙ e)),
      same,
    )

pub returns-clause-rules_hold : goal.returns-clause-rules_hold
returns-clause-rules_hold g c =
    form_holds (g.C.SignatureCheck.meaning (checker_of c.args.follower.now)) (state_of c.args.follower.now) c.args.key_package.now
    (sym c.in_ok-rule.ensures ∙ c.in_default.is) c.in_ok-reference.reference c.in_ok-reference.ensures.value

pub returns-clause-signed : goal.returns-clause-signed
returns-clause-signed g c =
    let all : c.in_ok-unaccepted.unaccepted ≡ [] = search rules in
    all_signed (g.C.SignatureCheck.meaning (checker_of c.args.follower.now)) (state_of c.args.follower.now) c.args.key_package.now
    (sym c.in_ok-rule.ensures ∙ c.in_default.is) c.requires.from_package c.in_ok-reference.reference c.in_ok-reference.ensures.value
    (sym (rw c.checker.ensures at c.in_ok-unaccepted.ensures) ∙ all)
