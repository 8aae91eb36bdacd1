-- The proposal list of a commit (RFC 9420, 12.4): its entries in order, where a reference is replaced by a pending
-- proposal. Used by contracts.
use Rattle.std.specs.Prelude.{ℕ, if◌then◌else◌, List, [], ◌∷◌, Option, Some, None, option_map}
use Rattle.std.specs.Str.{bytes_eq}
use Rattle.mls_msgs.specs.declared.framed_content.Sender.{Sender}
use Rattle.mls_msgs.specs.declared.proposal.ProposalOrRef.{ProposalOrRef}
use Rattle.mls_msgs.specs.declared.proposal.ProposalOrRef.TheVariants as entries
use Rattle.mls_apply.specs.declared.list_item.ListItem.{ListItem}
use Rattle.mls_apply.specs.declared.list_item.KnownProposal.{KnownProposal}

-- `find_known known reference` is the first pending proposal with a reference (RFC 9420, 5.2).
abbrev pub find_known : List KnownProposal → List ℕ → Option KnownProposal
find_known [] reference = None
find_known (k ∷ ks) reference = if bytes_eq k.reference reference then Some k else find_known ks reference

-- `item_of k` is a pending proposal with its sender, who need not be the committer.
abbrev pub item_of : KnownProposal → ListItem
item_of k = record { sender = k.sender; proposal = k.proposal }

-- `entry_item committer known e` is the proposal of an entry with its sender. The committer is the sender of a proposal
-- by value (RFC 9420, 12.4).
abbrev pub entry_item : Sender → List KnownProposal → ProposalOrRef → Option ListItem
entry_item committer known (entries.Proposal p) = Some (record { sender = committer; proposal = p })
entry_item committer known (entries.Reference reference) = option_map item_of (find_known known reference)

-- `with_first x items` is the list with `x` in front, if both exist.
abbrev pub with_first : Option ListItem → Option (List ListItem) → Option (List ListItem)
with_first None items = None
with_first (Some x) None = None
with_first (Some x) (Some xs) = Some (x ∷ xs)

-- `resolved committer known es` is the proposal list of a commit (RFC 9420, 12.4). `None` if it has an unknown
-- reference.
abbrev pub resolved : Sender → List KnownProposal → List ProposalOrRef → Option (List ListItem)
resolved committer known [] = Some []
resolved committer known (e ∷ es) = with_first (entry_item committer known e) (resolved committer known es)
