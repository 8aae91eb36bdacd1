use Rattle.std.proofs.Common.{◌≡◌, ◌∙◌, List, sym, ap}
use Rattle.mls_tree.proofs.Choices.{is_less}
use Rattle.mls_msgs.specs.declared.framed_content.Sender.TheVariants.{NewMemberCommit}
use Rattle.mls_apply.specs.ContextExtensions.{proposed_extensions}
use Rattle.mls_apply.specs.AppliedList.{outcome}
use Rattle.mls_apply.specs.RuleLists.{first_failing}
use Rattle.mls_apply.specs.declared.list_item.ListItem.{ListItem}
use Rattle.mls_follow.specs.MessageRules.{required_after, rules_with_requirements}
use Rattle.mls_follow.specs.MessageRulesInternal.{external_commit_refusal}
use Rattle.mls_follow.specs.GroupModel.{group_state}
use Rattle.mls_follow.specs.State.{last_epoch}
use Rattle.mls_follow.proofs.Committing.{past_join}
use Rattle.mls_follow.proofs.group.Group.take_external_commit.Goals as goal

pub returns : goal.returns
returns g c =
    let G = g.C.SignatureCheck.meaning c.args.checker.now in
    let group = c.args.self.now in
    let commit = c.args.commit.now in
    let items = c.in_ok-items.items.items in
    let same = c.in_ok-items.ensures.items in
    let whole : external_commit_refusal G (group_state group) group.required commit
    ≡ first_failing (rules_with_requirements G (group_state group) NewMemberCommit commit.path (outcome items group.tree.tree) (required_after group.required (proposed_extensions items)))
    = past_join G (group_state group) group.required commit c.requires.path (is_less group.context.epoch last_epoch c.in_ok-items.ensures.not_last_epoch) c.in_ok-items.ensures.list
    ∙ ap (λ (xs : List ListItem). first_failing (rules_with_requirements G (group_state group) NewMemberCommit commit.path (outcome xs group.tree.tree) (required_after group.required (proposed_extensions xs)))) (sym same) in
    let taken = rw c.auth-auth.ensures.value at c.take_resolved-answer.ensures in
    rw (whole, ← same) taken

pub invariant_of-resolved-clause-commit : goal.invariant_of-resolved-clause-commit
invariant_of-resolved-clause-commit g c = rw c.auth-auth.ensures.value c.requires.commit

pub invariant_of-resolved-clause-hashed : goal.invariant_of-resolved-clause-hashed
invariant_of-resolved-clause-hashed g c = rw c.auth-auth.ensures.value c.requires.hashed
