use Rattle.std.proofs.Common.{rules, refl, ◌∙◌, Some, map, ap, sym}
use Rattle.mls_tree.specs.TreeOperations.{blank_path, put_leaf}
use Rattle.mls_tree.specs.Tree.{leaf_count}
use Rattle.mls_tree.proofs.Choices.{is_less}
use Rattle.mls_hash.specs.SuiteHash.{hash_of}
use Rattle.mls_apply.specs.declared.refusal.Refusal.TheVariants.{SenderNotMember}
use Rattle.mls_apply.specs.AppliedList.{applied_tree}
use Rattle.mls_apply.specs.PathRules.{node_keys}
use Rattle.mls_apply.specs.PathParents.{changed}
use Rattle.mls_apply.specs.PathModel.{change_of}
use Rattle.mls_apply.proofs.Refusals.{path-no_leaf, path-mapped, path-set, same_fault}
use Rattle.mls_apply.proofs.Routes.{merged-changes}
use Rattle.mls_apply.proofs.path_merge.merge_path.Goals as goal

pub returns-then-committer-leaf_count-clause-refused : goal.returns-then-committer-leaf_count-clause-refused
returns-then-committer-leaf_count-clause-refused c _ =
    path-no_leaf (applied_tree c.args.applied.tree.tree c.args.applied.added) c.args.committer c.args.path.now (hash_of c.args.suite) (search rules)

pub returns-then-committer-leaf_count-clause-sender_not_member : goal.returns-then-committer-leaf_count-clause-sender_not_member
returns-then-committer-leaf_count-clause-sender_not_member c =
    (λ _. path-no_leaf (applied_tree c.args.applied.tree.tree c.args.applied.added) c.args.committer c.args.path.now (hash_of c.args.suite) (search rules), λ _. refl)

pub returns-in-Ok-clause-merged : goal.returns-in-Ok-clause-merged
returns-in-Ok-clause-merged c =
    let t = c.args.applied.tree.tree in
    let cs = map change_of c.in-Ok.new.parents.items in
    merged-changes (hash_of c.args.suite) t c.args.committer c.args.path.now.leaf_node (node_keys c.args.path.now) cs c.in-Ok.ensures.made.path_parents
    ∙ (λ i. Some (put_leaf 0 (changed 0 (blank_path (sym c.checked_nodes-new.ensures.tree i) c.args.committer) cs) c.args.committer (Some (sym c.in-Ok.ensures.made.leaf i))))
    ∙ (λ i. Some (sym c.put_path.ensures i))

pub returns-in-Err-clause-sender_not_member : goal.returns-in-Err-clause-sender_not_member
returns-in-Err-clause-sender_not_member c =
    let g = applied_tree c.args.applied.tree.tree c.args.applied.added in
    let set = is_less c.args.committer (leaf_count c.args.applied.tree.tree) (search rules) in
    path-set g c.args.committer c.args.path.now (hash_of c.args.suite)
    (λ h.
    let same = same_fault c.in-Err.refusal SenderNotMember _ _ h in
    path-mapped g c.args.committer c.args.path.now (hash_of c.args.suite) (c.in-Err.ensures.refused (λ e. cc (e, same)) ∙ ap Some same)) set
