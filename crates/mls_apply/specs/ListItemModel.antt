-- The model of a `ListItem`: a proposal of a proposal list (RFC 9420, 12.4).
-- Used by contracts.
use Rattle.mls_msgs.specs.declared.framed_content.Sender.{Sender}
use Rattle.mls_msgs.specs.declared.proposal.Proposal.{Proposal}

-- `ListItemModel` is a proposal and its sender (6)
pub record ListItemModel : Type 0 where
  pub sender : Sender
  pub proposal : Proposal
