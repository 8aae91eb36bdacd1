use Rattle.std.proofs.Common.{rules, ◌≡◌, ◌∙◌, [], sym}
use Rattle.std.proofs.lemmas.Result.{err_from_is_err_and}
use Rattle.mls_examine.proofs.Checked.{is_good, is_unsigned, other_suite, other_version, reference_fault, that_suite, that_version}
use Rattle.mls_examine.proofs.Faults.{fault_is_reason, leaf_fault, strict_fault, wrong_suite, wrong_version}
use Rattle.mls_examine.proofs.package_check.check_package.Goals as goal

pub returns-then-key_package-ne-MLS10-clause-unfit : goal.returns-then-key_package-ne-MLS10-clause-unfit
returns-then-key_package-ne-MLS10-clause-unfit g c =
    λ _. wrong_version c.args.asked c.args.key_package.now (other_version _ c.if-key_package-ne-MLS10.true)

pub returns-in_default-clause-unfit : goal.returns-in_default-clause-unfit
returns-in_default-clause-unfit g c =
    λ _. wrong_suite c.args.asked c.args.key_package.now (that_version _ c.if-key_package-ne-MLS10.false)
    (other_suite _ (λ h. let bad = c.in_default.ensures.supported h in absurd cc))

pub returns-in_err-lifetime-clause-unfit : goal.returns-in_err-lifetime-clause-unfit
returns-in_err-lifetime-clause-unfit g c =
    let k = c.args.key_package.now in
    let suite = that_suite k.cipher_suite c.in-Ok.suite c.in-Ok.ensures.supported c.in-Ok.ensures.unsupported in
    let p = err_from_is_err_and c.from_residual.result c.from_residual.ensures.1 in
    rw (p.1, p.2)
    (λ other. fault_is_reason (g.C.SignatureCheck.meaning c.args.checker.now) c.args.asked k _
    (leaf_fault c.args.asked k (that_version _ c.if-key_package-ne-MLS10.false) suite.0 _ (c.in_err-lifetime.ensures.broken_rule other)))

pub returns-in-Some-clause-unfit : goal.returns-in-Some-clause-unfit
returns-in-Some-clause-unfit g c =
    let k = c.args.key_package.now in
    let suite = that_suite k.cipher_suite c.in-Ok.suite c.in-Ok.ensures.supported c.in-Ok.ensures.unsupported in
    λ _. strict_fault c.args.asked k (that_version _ c.if-key_package-ne-MLS10.false) suite.0 c.in_ok-lifetime.ensures.rules_hold
    c.in-Some.rule (rw suite.1 at (sym c.in-Some.ensures))

pub returns-in_err-reference-clause-unfit : goal.returns-in_err-reference-clause-unfit
returns-in_err-reference-clause-unfit g c =
    let k = c.args.key_package.now in
    let suite = that_suite k.cipher_suite c.in-Ok.suite c.in-Ok.ensures.supported c.in-Ok.ensures.unsupported in
    let none = rw suite.1 at (sym c.in_default-package_refusal.ensures) in
    let p = err_from_is_err_and c.from_residual-in_err-reference.result c.from_residual-in_err-reference.ensures.1 in
    rw (p.1, p.2)
    (reference_fault c.args.asked k (that_version _ c.if-key_package-ne-MLS10.false) suite.0 c.in_ok-lifetime.ensures.rules_hold none
    (g.C.SignatureCheck.meaning c.args.checker.now) c.in_err-reference.field-0.0 c.in_err-reference.ensures.unsupported c.in_err-reference.ensures.too_long)

pub returns-then-not-is_empty-clause-unfit : goal.returns-then-not-is_empty-clause-unfit
returns-then-not-is_empty-clause-unfit g c =
    let k = c.args.key_package.now in
    let suite = that_suite k.cipher_suite c.in-Ok.suite c.in-Ok.ensures.supported c.in-Ok.ensures.unsupported in
    let none = rw suite.1 at (sym c.in_default-package_refusal.ensures) in
    let some : c.in_ok-unaccepted.unaccepted ≡ [] → ⊥ = λ e. search rules in
    let bad = is_unsigned c.args.asked k (that_version _ c.if-key_package-ne-MLS10.false) suite.0 c.in_ok-lifetime.ensures.rules_hold none
    (g.C.SignatureCheck.meaning c.args.checker.now) c.in_ok-reference.reference c.in_ok-reference.ensures.value
    (λ e. some (c.in_ok-unaccepted.ensures ∙ e)) in
    λ _. (bad.0, bad.1, c.in_ok-unaccepted.ensures)

pub returns-clause-good : goal.returns-clause-good
returns-clause-good g c =
    let k = c.args.key_package.now in
    let suite = that_suite k.cipher_suite c.in-Ok.suite c.in-Ok.ensures.supported c.in-Ok.ensures.unsupported in
    let none = rw suite.1 at (sym c.in_default-package_refusal.ensures) in
    let all : c.in_ok-unaccepted.unaccepted ≡ [] = search rules in
    is_good c.args.asked k (that_version _ c.if-key_package-ne-MLS10.false) suite.0 c.in_ok-lifetime.ensures.rules_hold none
    (g.C.SignatureCheck.meaning c.args.checker.now) c.in_ok-reference.reference c.in_ok-reference.ensures.value
    (sym c.in_ok-unaccepted.ensures ∙ all)
