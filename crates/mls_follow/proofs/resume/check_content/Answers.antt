use Rattle.std.proofs.Common.{refl}
use Rattle.std.proofs.lemmas.Result.{err_from_is_err_and}
use Rattle.mls_tree.specs.PublicTreeModel.{plain}
use Rattle.mls_follow.proofs.resume.check_content.Goals as goal

pub returns-in_err-suite-clause-refused : goal.returns-in_err-suite-clause-refused
returns-in_err-suite-clause-refused g c =
    let p = err_from_is_err_and c.from_residual.result c.from_residual.ensures.1 in
    rw (p.1, p.2) (c.in_err-suite.ensures.refused (g.C.SignatureCheck.meaning c.args.checker.now) c.args.content.now (plain c.args.tree) refl)

pub returns-in_err-tree-clause-refused : goal.returns-in_err-tree-clause-refused
returns-in_err-tree-clause-refused g c =
    let p = err_from_is_err_and c.from_residual-in_err-tree.result c.from_residual-in_err-tree.ensures.1 in
    rw (p.1, p.2) (c.in_err-tree.ensures.refused c.args.content.now refl)
