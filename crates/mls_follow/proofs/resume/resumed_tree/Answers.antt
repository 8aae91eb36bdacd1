use Rattle.std.proofs.Common.{◌∙◌, ap}
use Rattle.mls_tree.specs.PublicTreeModel.{plain}
use Rattle.mls_tree.specs.RatchetTree.{RatchetTree}
use Rattle.mls_follow.proofs.Resuming.{tree_fault_again, members_again}
use Rattle.mls_follow.proofs.resume.resumed_tree.Goals as goal

pub returns-in-Ok-of-clause-tree : goal.returns-in-Ok-of-clause-tree
returns-in-Ok-of-clause-tree g c = c.in-Ok-of.ensures.tree ∙ ap (λ (t : RatchetTree). t.tree) c.group_requirements.ensures.tree

pub returns-in-Ok-of-clause-members : goal.returns-in-Ok-of-clause-members
returns-in-Ok-of-clause-members g c =
    members_again (g.C.SignatureCheck.meaning c.args.checker.now) c.args.context.now (plain c.group_requirements.new.tree) (plain c.args.tree) _
    c.group_requirements.ensures.tree c.in-Ok.ensures.members

pub returns-in-Err-clause-refused : goal.returns-in-Err-clause-refused
returns-in-Err-clause-refused g c =
    rw c.from.ensures (tree_fault_again (g.C.SignatureCheck.meaning c.args.checker.now) c.args.context.now (plain c.group_requirements.new.tree) (plain c.args.tree) c.in-Err.fault
    c.group_requirements.ensures.tree c.in-Err.ensures.refused)
