use Rattle.std.proofs.lemmas.Result.{err_from_is_err_and}
use Rattle.mls_tree.specs.PublicTreeModel.{plain}
use Rattle.mls_follow.proofs.Starting.{strict_fails}
use Rattle.mls_follow.proofs.start.verified_interim_hash.Goals as goal

pub returns-in_err-check_strict_start-clause-refused : goal.returns-in_err-check_strict_start-clause-refused
returns-in_err-check_strict_start-clause-refused g c =
    let answer = c.from_residual-in_err-check_strict_start in
    let p = err_from_is_err_and answer.result answer.ensures.1 in
    rw (p.1, p.2) (strict_fails c.args.rules.now.asked (g.C.SignatureCheck.meaning c.args.checker.now) c.args.info.now (plain c.args.tree.now)
    c.in_err-check_strict_start.field-0.0 c.in_ok-check_signer.ensures.signed c.in_err-check_strict_start.ensures.refused)

pub returns-in_err-check_signer-clause-refused : goal.returns-in_err-check_signer-clause-refused
returns-in_err-check_signer-clause-refused g c =
    let p = err_from_is_err_and c.from_residual.result c.from_residual.ensures.1 in
    rw (p.1, p.2) (c.in_err-check_signer.ensures.refused c.args.rules.now.asked)
