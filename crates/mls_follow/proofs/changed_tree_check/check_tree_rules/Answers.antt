use Rattle.std.proofs.Common.{◌≡◌, true, rules}
use Rattle.std.proofs.lemmas.Result.{err_from_is_err_and}
use Rattle.mls_check.specs.DistinctKeys.{has_distinct_keys}
use Rattle.mls_follow.specs.CommitTree.{in_context}
use Rattle.mls_follow.proofs.Committing.{tree_kept, tree_failed}
use Rattle.mls_follow.proofs.changed_tree_check.check_tree_rules.Goals as goal

pub returns-in_err-check_leaf_nodes-clause-refused : goal.returns-in_err-check_leaf_nodes-clause-refused
returns-in_err-check_leaf_nodes-clause-refused g c =
    let p = err_from_is_err_and c.from_residual.result c.from_residual.ensures.1 in
    let distinct : has_distinct_keys c.args.tree.now.tree ≡ true = search rules in
    rw (p.1, p.2) (tree_failed _ (in_context c.args.rules.now.context.now) c.args.rules.now.required.now c.args.tree.now.tree distinct c.in_err-check_leaf_nodes.field-0.0 c.in_err-check_leaf_nodes.ensures.fault)

pub returns-clause-rules_hold : goal.returns-clause-rules_hold
returns-clause-rules_hold g c =
    let distinct : has_distinct_keys c.args.tree.now.tree ≡ true = search rules in
    tree_kept _ (in_context c.args.rules.now.context.now) c.args.rules.now.required.now c.args.tree.now.tree distinct c.in_ok-check_leaf_nodes.ensures.members
