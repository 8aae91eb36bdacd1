use Rattle.std.proofs.lemmas.Result.{err_from_is_err_and}
use Rattle.mls_tree.specs.PublicTreeModel.{plain}
use Rattle.mls_follow.proofs.Starting.{signature_fails, starts, starts_again, fails_again}
use Rattle.mls_follow.proofs.start.check_info_and_tree.Goals as goal

pub returns-in-Ok-of-clause-started : goal.returns-in-Ok-of-clause-started
returns-in-Ok-of-clause-started g c =
    let G = g.C.SignatureCheck.meaning c.args.checker.now in
    starts_again c.args.rules.now.asked G c.args.info.now (plain c.validated_requirements.new.tree) (plain c.args.tree.now) _ c.validated_requirements.ensures.tree
    (starts c.args.rules.now.asked G c.args.info.now (plain c.validated_requirements.new.tree) c.in_ok-required.required c.in_ok-required.ensures.members
    _ c.in-Ok.ensures.signed c.in-Ok.ensures.info c.in-Ok.ensures.strict c.in-Ok.ensures.hashed)

pub returns-in-Err-clause-refused : goal.returns-in-Err-clause-refused
returns-in-Err-clause-refused g c =
    let G = g.C.SignatureCheck.meaning c.args.checker.now in
    fails_again c.args.rules.now.asked G c.args.info.now (plain c.validated_requirements.new.tree) (plain c.args.tree.now) _ c.validated_requirements.ensures.tree
    (signature_fails c.args.rules.now.asked G c.args.info.now (plain c.validated_requirements.new.tree) c.in_ok-required.required c.in_ok-required.ensures.members
    _ c.in-Err.ensures.refused)

pub returns-in_err-required-clause-refused : goal.returns-in_err-required-clause-refused
returns-in_err-required-clause-refused g c =
    let G = g.C.SignatureCheck.meaning c.args.checker.now in
    let asked = c.args.rules.now.asked in
    let p = err_from_is_err_and c.from_residual.result c.from_residual.ensures.1 in
    rw (p.1, p.2) (fails_again asked G c.args.info.now (plain c.validated_requirements.new.tree) (plain c.args.tree.now) _ c.validated_requirements.ensures.tree
    (c.in_err-required.ensures.refused asked))
