use Rattle.std.proofs.Common.{◌∙◌, Err, ap, inl, inr}
use Rattle.std.proofs.lemmas.Result.{err_from_is_err_and}
use Rattle.mls_apply.specs.AppliedList.{applied_tree}
use Rattle.mls_apply.proofs.Leaves.{leaf_inside}
use Rattle.mls_follow.proofs.Committing.{placed_there, no_committer_tree}
use Rattle.mls_follow.proofs.commit_changes.committer_in_tree.Goals as goal

-- a member has its leaf
pub returns-in-Member-clause-inside : goal.returns-in-Member-clause-inside
returns-in-Member-clause-inside c = leaf_inside c.args.tree.now.tree c.in-Member.leaf (rw c.in-Member.is at c.requires)

-- a client that joins takes one, or there is none
pub returns-in_err-leaf-in-NewMemberCommit-clause-refused : goal.returns-in_err-leaf-in-NewMemberCommit-clause-refused
returns-in_err-leaf-in-NewMemberCommit-clause-refused c =
    let p = err_from_is_err_and c.from_residual.result c.from_residual.ensures.1 in
    rw (c.in-NewMemberCommit.is, p.1, p.2) (λ own.
    elim c.in_err-leaf-in-NewMemberCommit.ensures.possible_errors [
      | inl full ↦ (
        no_committer_tree (applied_tree c.args.tree.now.tree c.args.added) (c.in_err-leaf-in-NewMemberCommit.ensures.too_many_leaves.0 (ap Err full)),
        full,
      )
      | inr memory ↦ absurd (own memory)
    ])

pub returns-in_ok-leaf-in-NewMemberCommit-clause-committer_tree : goal.returns-in_ok-leaf-in-NewMemberCommit-clause-committer_tree
returns-in_ok-leaf-in-NewMemberCommit-clause-committer_tree c =
    rw c.in-NewMemberCommit.is
    (placed_there (applied_tree c.args.tree.now.tree c.args.added) _ _ _ c.in_ok-leaf-in-NewMemberCommit.ensures.capacity c.in_ok-leaf-in-NewMemberCommit.ensures.tree c.in_ok-leaf-in-NewMemberCommit.ensures.leaf (c.new-added.ensures ∙ c.new-none.ensures.items))
