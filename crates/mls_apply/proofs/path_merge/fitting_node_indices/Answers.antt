use Rattle.std.proofs.Common.{◌≢◌, ◌∙◌, Some, Err, length, ap, sym, inl, inr, arith}
use Rattle.std.proofs.lemmas.Result.{err_from_is_err_and}
use Rattle.mls_apply.specs.AppliedList.{applied_tree}
use Rattle.mls_apply.specs.PathRules.{path_length}
use Rattle.mls_tree.proofs.Choices.{is_less}
use Rattle.mls_apply.proofs.Refusals.{path-no_leaf, path-other_length, path-no_commit, path-long}
use Rattle.mls_apply.proofs.path_merge.fitting_node_indices.Goals as goal

pub returns-in_err-node_indices-clause-refused : goal.returns-in_err-node_indices-clause-refused
returns-in_err-node_indices-clause-refused c =
    let p = err_from_is_err_and c.from_residual.result c.from_residual.ensures.1 in
    rw (p.1, p.2) (λ not_memory H.
    elim c.in_err-node_indices.ensures.possible_errors [
      | inl e ↦ path-no_leaf (applied_tree c.args.tree.now.tree c.args.path.now.added.now) c.args.path.now.leaf c.args.path.now.path.now H (c.in_err-node_indices.ensures.outside.0 (ap Err e)) ∙ ap Some (sym e)
      | inr e ↦ absurd (not_memory e)
    ])

pub returns-then-nodes-len-clause-refused : goal.returns-then-nodes-len-clause-refused
returns-then-nodes-len-clause-refused c _ H =
    let nodes = ap length c.as_slice-nodes.ensures in
    let node_indices = ap length c.in_ok-node_indices.ensures.node_indices in
    let kept = c.in_ok-node_indices.node_indices.ok in
    let other : length c.args.path.now.path.now.nodes ≢ path_length c.args.tree.now.tree c.args.path.now.leaf = λ e. c.if-nodes-len.true (omega arith) in
    path-other_length (applied_tree c.args.tree.now.tree c.args.path.now.added.now) c.args.path.now.leaf c.args.path.now.path.now H (is_less _ _ c.in_ok-node_indices.ensures.inside) other

pub returns-then-not-is_from_commit-clause-refused : goal.returns-then-not-is_from_commit-clause-refused
returns-then-not-is_from_commit-clause-refused c _ H =
    let long = path-long c.args.tree.now.tree c.args.path.now.leaf c.len.result c.as_slice-nodes.result.now c.args.path.now.path.now.nodes c.in_ok-node_indices.node_indices.items
    c.as_slice-nodes.ensures c.in_ok-node_indices.ensures.node_indices (omega (arith, c.in_ok-node_indices.node_indices.ok)) c.if-nodes-len.false in
    path-no_commit (applied_tree c.args.tree.now.tree c.args.path.now.added.now) c.args.path.now.leaf c.args.path.now.path.now H (is_less _ _ c.in_ok-node_indices.ensures.inside) long (sym (rw (c.source.ensures, c.deref.ensures) at c.is_from_commit.ensures) ∙ c.if-not-is_from_commit.true)

pub returns-clause-commit : goal.returns-clause-commit
returns-clause-commit c = sym (rw (c.source.ensures, c.deref.ensures) at c.is_from_commit.ensures) ∙ c.if-not-is_from_commit.false
