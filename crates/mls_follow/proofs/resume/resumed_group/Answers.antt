use Rattle.std.proofs.lemmas.Result.{err_from_is_err_and}
use Rattle.mls_tree.specs.PublicTreeModel.{plain}
use Rattle.mls_follow.proofs.Resuming.{state_of_bytes, fault_of_bytes}
use Rattle.mls_follow.proofs.resume.resumed_group.Goals as goal

pub returns-in_err-content-clause-refused : goal.returns-in_err-content-clause-refused
returns-in_err-content-clause-refused g c =
    let p = err_from_is_err_and c.from_residual.result c.from_residual.ensures.1 in
    rw (p.1, p.2) (c.in_err-content.ensures.refused (g.C.SignatureCheck.meaning c.args.checker.now))

pub returns-clause-resumed : goal.returns-clause-resumed
returns-clause-resumed g c =
    let read = c.in_ok-content.ensures.intact in
    state_of_bytes (g.C.SignatureCheck.meaning c.args.checker.now) c.args.bytes.items read.0 c.in_ok-content.content (plain c.in_ok-content.tree) read.1 read.2
    c.resumed_content.result c.resumed_content.ensures.resumed

pub returns-clause-refused : goal.returns-clause-refused
returns-clause-refused g c =
    let read = c.in_ok-content.ensures.intact in
    fault_of_bytes (g.C.SignatureCheck.meaning c.args.checker.now) c.args.bytes.items read.0 c.in_ok-content.content (plain c.in_ok-content.tree) read.1 read.2
    c.resumed_content.result c.resumed_content.ensures.refused
