-- The AuthenticatedContent of a pending proposal (RFC 9420, 6 and 12.4). Used by contracts.
use Rattle.std.specs.Prelude.{None}
use Rattle.mls_nodes.specs.declared.context.GroupContext.{GroupContext}
use Rattle.mls_msgs.specs.declared.authenticated.AuthenticatedParts.{AuthenticatedParts}
use Rattle.mls_msgs.specs.declared.framed_content.Content.TheVariants as contents
use Rattle.mls_apply.specs.declared.list_item.KnownProposal.{KnownProposal}

-- `authenticated_of context k` is the AuthenticatedContent (RFC 9420, 6) of the pending proposal `k` in the current epoch: that
-- of a PublicMessage of the group and the epoch.
abbrev pub authenticated_of : GroupContext → KnownProposal → AuthenticatedParts
authenticated_of context k = record {
  wire_format = 1;
  content = record {
    group_id = context.group_id;
    epoch = context.epoch;
    sender = k.sender;
    authenticated = k.authenticated_data;
    content = contents.Proposal k.proposal;
  };
  signature = k.signature;
  confirmation_tag = None;
}
