use Rattle.mls_tree.specs.PublicTreeModel.{plain}
use Rattle.mls_follow.proofs.Resuming.{base_checked, state_of_content, fault_of_content}
use Rattle.mls_follow.proofs.resume.resumed_content.Goals as goal

pub returns-in-Ok-clause-resumed : goal.returns-in-Ok-clause-resumed
returns-in-Ok-clause-resumed g c =
    state_of_content (g.C.SignatureCheck.meaning c.args.checker.now) c.args.content (plain c.args.tree) c.in-Ok.found.tree.tree c.in-Ok.found.interim c.in-Ok.ensures.tree
    c.in-Ok.ensures.interim c.in-Ok.ensures.based c.group_of-answer.result c.group_of-answer.ensures.resumed

pub returns-in-Ok-clause-refused : goal.returns-in-Ok-clause-refused
returns-in-Ok-clause-refused g c =
    fault_of_content (g.C.SignatureCheck.meaning c.args.checker.now) c.args.content (plain c.args.tree) c.in-Ok.found.tree.tree c.in-Ok.found.interim c.in-Ok.ensures.tree
    c.in-Ok.ensures.interim c.in-Ok.ensures.based c.group_of-answer.result c.group_of-answer.ensures.refused

pub group_of-answer-requires-clause-checked : goal.group_of-answer-requires-clause-checked
group_of-answer-requires-clause-checked g c =
    base_checked (g.C.SignatureCheck.meaning c.args.checker.now) c.args.content (plain c.args.tree) c.in-Ok.found.tree.tree c.in-Ok.found.interim c.in-Ok.ensures.tree
    c.in-Ok.ensures.interim c.in-Ok.ensures.based
