use Rattle.std.proofs.Common.{◌∙◌, length, ap, sym}
use Rattle.mls_tree.proofs.Choices.{is_less}
use Rattle.mls_apply.specs.AppliedList.{applied_tree}
use Rattle.mls_apply.proofs.Counting.{has_ciphertexts-counted}
use Rattle.mls_apply.proofs.Paths.{filtered-parents}
use Rattle.mls_apply.proofs.Refusals.{path-old_key, path-other_count, path-checked}
use Rattle.mls_apply.proofs.path_merge.check_keys_and_counts.Goals as goal

pub have_counts-requires-clause-parents : goal.have_counts-requires-clause-parents
have_counts-requires-clause-parents c =
    filtered-parents c.args.tree.now.tree c.args.path.now.leaf c.args.node_indices.now c.requires.node_indices

pub returns-then-not-branch-clause-refused : goal.returns-then-not-branch-clause-refused
returns-then-not-branch-clause-refused c _ H =
    let long = c.requires.paired ∙ ap length c.requires.node_indices in
    path-old_key (applied_tree c.args.tree.now.tree c.args.path.now.added.now) c.args.path.now.leaf c.args.path.now.path.now H (is_less _ _ c.requires.inside) long c.requires.commit (sym c.in_ok-has_new_keys.ensures ∙ c.if-not-branch.true)

pub returns-then-not-branch-2-clause-refused : goal.returns-then-not-branch-2-clause-refused
returns-then-not-branch-2-clause-refused c _ H =
    let long = c.requires.paired ∙ ap length c.requires.node_indices in
    let new = sym c.in_ok-has_new_keys.ensures ∙ c.if-not-branch.false in
    let counted = has_ciphertexts-counted c.args.path.now.path.now (applied_tree c.args.tree.now.tree c.args.path.now.added.now) c.args.path.now.leaf c.as_slice-added.result.now c.args.node_indices.now c.as_slice-nodes.result.now c.in_ok-have_counts.field-0
    c.as_slice-added.ensures c.requires.node_indices c.as_slice-nodes.ensures c.in_ok-have_counts.ensures in
    path-other_count (applied_tree c.args.tree.now.tree c.args.path.now.added.now) c.args.path.now.leaf c.args.path.now.path.now H (is_less _ _ c.requires.inside) long c.requires.commit new (counted ∙ c.if-not-branch-2.true)

pub returns-clause-rules_hold : goal.returns-clause-rules_hold
returns-clause-rules_hold c H =
    let long = c.requires.paired ∙ ap length c.requires.node_indices in
    let new = sym c.in_ok-has_new_keys.ensures ∙ c.if-not-branch.false in
    let counted = has_ciphertexts-counted c.args.path.now.path.now (applied_tree c.args.tree.now.tree c.args.path.now.added.now) c.args.path.now.leaf c.as_slice-added.result.now c.args.node_indices.now c.as_slice-nodes.result.now c.in_ok-have_counts.field-0
    c.as_slice-added.ensures c.requires.node_indices c.as_slice-nodes.ensures c.in_ok-have_counts.ensures in
    path-checked (applied_tree c.args.tree.now.tree c.args.path.now.added.now) c.args.path.now.leaf c.args.path.now.path.now H (is_less _ _ c.requires.inside) long c.requires.commit new (counted ∙ c.if-not-branch-2.false)
