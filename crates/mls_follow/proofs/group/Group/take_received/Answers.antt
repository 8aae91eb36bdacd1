use Rattle.std.proofs.Common.{◌≡◌, ◌∙◌}
use Rattle.mls_tree.proofs.Choices.{is_less}
use Rattle.mls_msgs.specs.declared.framed_content.Content.TheVariants as contents
use Rattle.mls_msgs.specs.declared.framed_content.Sender.TheVariants.{Member}
use Rattle.mls_apply.specs.ContextExtensions.{proposed_extensions}
use Rattle.mls_apply.specs.AppliedList.{outcome}
use Rattle.mls_apply.specs.RuleLists.{first_failing}
use Rattle.mls_follow.specs.MessageRules.{required_after, rules_with_requirements}
use Rattle.mls_follow.specs.MessageRulesInternal.{handshake_refusal}
use Rattle.mls_follow.specs.GroupModel.{group_state}
use Rattle.mls_follow.specs.GroupModelInternal.{with_known}
use Rattle.mls_follow.specs.State.{last_epoch}
use Rattle.mls_follow.proofs.Committing.{of_commit, past_list}
use Rattle.mls_follow.proofs.group.Group.take_received.Goals as goal

pub returns : goal.returns
returns g c =
    let G = g.C.SignatureCheck.meaning c.args.checker.now in
    let group = c.args.self.now in
    let s = with_known (group_state group) c.args.received.now.known.now in
    let commit = c.args.received.now.commit.now in
    let items = c.in_ok-items.items.items in
    let whole : handshake_refusal G s group.required c.args.auth.now c.args.received.now.committer (contents.Commit commit)
    ≡ first_failing (rules_with_requirements G s (Member c.args.received.now.committer) commit.path (outcome items group.tree.tree) (required_after group.required (proposed_extensions items)))
    = of_commit G s group.required c.args.auth.now c.args.received.now.committer commit
    ∙ past_list G s group.required c.args.received.now.committer commit (is_less group.context.epoch last_epoch c.in_ok-items.ensures.not_last_epoch) items c.in_ok-items.ensures.items c.in_ok-items.ensures.inline c.in_ok-items.ensures.list in
    rw (whole, c.in_ok-items.ensures.items) c.take_resolved-answer.ensures
