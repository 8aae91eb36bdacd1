use Rattle.std.proofs.Common.{rules}
use Rattle.std.proofs.lemmas.Result.{err_from_is_err_and}
use Rattle.mls_tree.specs.PublicTreeModel.{plain}
use Rattle.mls_follow.specs.GroupModel.{group_state}
use Rattle.mls_follow.proofs.StoredStates.{no_tree_no_file}
use Rattle.mls_follow.proofs.group.Group.content.Goals as goal

pub returns-in_err-tree-clause-none : goal.returns-in_err-tree-clause-none
returns-in_err-tree-clause-none c =
    let p = err_from_is_err_and c.from_residual.result c.from_residual.ensures.1 in
    rw (p.1, p.2) (λ own. no_tree_no_file (group_state c.args.self.now) (plain c.tree.result.now) c.tree.ensures (c.in_err-tree.ensures.none own))

pub returns-clause-stores : goal.returns-clause-stores
returns-clause-stores c = (
  plain c.tree.result.now,
  c.in_ok-tree.ensures.body,
  record {
    mode = search rules;
    rules = search rules;
    context = search rules;
    tree = c.tree.ensures;
    interim = search rules;
    known = search rules;
    referenced = c.args.self.now.referenced;
    added = search rules;
  },
)
