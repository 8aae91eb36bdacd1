use Rattle.std.proofs.Common.{◌≡◌, None, Option, OnOk, IfErr, sym, subst}
use Rattle.mls_hash.specs.SuiteHash.{hash_of}
use Rattle.mls_tree.proofs.Choices.{is_less}
use Rattle.mls_apply.specs.AppliedList.{applied_tree}
use Rattle.mls_apply.specs.declared.refusal.Refusal.{Refusal}
use Rattle.mls_follow.specs.AcceptanceInternal.{FailsWithRule}
use Rattle.mls_follow.proofs.Committing.{path_word}
use Rattle.mls_follow.proofs.commit_changes.merge.Goals as goal

pub returns-clause-refused : goal.returns-clause-refused
returns-clause-refused c =
    let word = path_word (hash_of c.args.suite) (applied_tree c.args.tree.now.tree c.args.committer.now.added) c.args.committer.now.leaf c.in-Some.path (is_less _ _ c.requires) in
    rw c.in-Some.is (subst (λ (o : Option Refusal). IfErr c.merge_path.result (FailsWithRule o)) (sym word) c.merge_path.ensures.refused)

pub returns-clause-rules_hold : goal.returns-clause-rules_hold
returns-clause-rules_hold c =
    let word = path_word (hash_of c.args.suite) (applied_tree c.args.tree.now.tree c.args.committer.now.added) c.args.committer.now.leaf c.in-Some.path (is_less _ _ c.requires) in
    rw c.in-Some.is (subst (λ (o : Option Refusal). OnOk c.merge_path.result (o ≡ None)) (sym word) c.merge_path.ensures.rules_hold)
