-- The state of a group with other pending proposals, and for what group a message is. Internal: no public contract uses this.
use Rattle.std.specs.Prelude.{◌≡◌, List}
use Rattle.mls_nodes.specs.declared.context.GroupContext.{GroupContext}
use Rattle.mls_msgs.specs.declared.authenticated.AuthenticatedParts.{AuthenticatedParts}
use Rattle.mls_msgs.specs.declared.framed_content.Content.TheVariants as contents
use Rattle.mls_msgs.specs.declared.framed_content.Sender.{Sender}
use Rattle.mls_msgs.specs.declared.proposal.Proposal.{Proposal}
use Rattle.mls_apply.specs.declared.list_item.KnownProposal.{KnownProposal}
use Rattle.mls_follow.specs.State.{State}

-- `with_known s known` is the state `s` with these pending proposals.
abbrev pub with_known : State → List KnownProposal → State
with_known s known = record {
  profile = s.profile;
  rules = s.rules;
  context = s.context;
  tree = s.tree;
  interim = s.interim;
  known = known;
  ended = s.ended;
  added = s.added;
}

-- `IsFramedIn context a`: `a` is the AuthenticatedContent of a PublicMessage for the group and the epoch of the context (RFC 9420,
-- 6 and 6.1).
pub record IsFramedIn (context : GroupContext) (a : AuthenticatedParts) : Type 0 where
  pub format : a.wire_format ≡ 1
  pub group : a.content.group_id ≡ context.group_id
  pub epoch : a.content.epoch ≡ context.epoch

-- `IsSentIn context a sender p`: so it is, and its content is the proposal `p` of the sender.
pub record IsSentIn (context : GroupContext) (a : AuthenticatedParts) (sender : Sender) (p : Proposal) : Type 0 where
  pub framed : IsFramedIn context a
  pub sender_is : a.content.sender ≡ sender
  pub content : a.content.content ≡ contents.Proposal p
