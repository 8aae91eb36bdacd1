use Rattle.std.proofs.Common.{rules}
use Rattle.std.proofs.lemmas.Result.{err_from_is_err_and}
use Rattle.mls_tree.specs.PublicTreeModel.{plain}
use Rattle.mls_check.proofs.GroupTrees.{tree_fails, members_fail, all_members}
use Rattle.mls_check.proofs.group_tree.validate_tree_and_leaves.Goals as goal

pub returns-in_err-validate_tree-clause-refused : goal.returns-in_err-validate_tree-clause-refused
returns-in_err-validate_tree-clause-refused g c =
    let p = err_from_is_err_and c.from_residual.result c.from_residual.ensures.1 in
    rw (p.1, p.2) (tree_fails _ c.args.context.now (plain c.args.tree.now) c.requires.supported c.args.required.now c.requires.required c.in_err-validate_tree.field-0.0
    (search rules))

pub returns-in_err-validate_members-clause-refused : goal.returns-in_err-validate_members-clause-refused
returns-in_err-validate_members-clause-refused g c =
    let p = err_from_is_err_and c.from_residual-in_err-validate_members.result c.from_residual-in_err-validate_members.ensures.1 in
    rw (p.1, p.2) (members_fail _ c.args.context.now (plain c.args.tree.now) c.requires.supported c.args.required.now c.requires.required
    (search rules) c.in_err-validate_members.field-0.0 c.in_err-validate_members.ensures.fault)

pub returns-clause-members : goal.returns-clause-members
returns-clause-members g c =
    all_members _ c.args.context.now (plain c.args.tree.now) c.requires.supported c.args.required.now c.requires.required (search rules) c.in_ok-validate_members.ensures.members
