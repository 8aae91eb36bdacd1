-- Under which key the signature of a FramedContent is verified, whether the GroupContext is signed with it, and which
-- proposals a sender may send (RFC 9420, 6.1 and 12.1.8). `context` is the GroupContext of the epoch.
-- Used by contracts. `t`: the ratchet tree of the epoch.
use Rattle.std.specs.Prelude.{ℕ, zero, suc, is_some, List, [], ◌∷◌, Bool, true, false, Option, Some, None, option_and_then}
use Rattle.mls_nodes.specs.ExternalSenders.{senders_by}
use Rattle.mls_nodes.specs.declared.context.GroupContext.{GroupContext}
use Rattle.mls_nodes.specs.declared.extension.Extension.{Extension}
use Rattle.mls_nodes.specs.declared.leaf.LeafNode.{LeafNode}
use Rattle.mls_nodes.specs.declared.senders.ExternalSender.{ExternalSender}
use Rattle.mls_tree.specs.Tree.{Tree, leaf_at}
use Rattle.mls_msgs.specs.declared.commit.UpdatePath.{UpdatePath}
use Rattle.mls_msgs.specs.declared.framed_content.Content.{Content}
use Rattle.mls_msgs.specs.declared.framed_content.Content.TheVariants as contents
use Rattle.mls_msgs.specs.declared.framed_content.Sender.{Sender}
use Rattle.mls_msgs.specs.declared.framed_content.Sender.TheVariants as senders
use Rattle.mls_msgs.specs.declared.proposal.Proposal.{Proposal}
use Rattle.mls_msgs.specs.declared.proposal.Proposal.TheVariants as proposals

-- `signed_context context sender` is the GroupContext that is signed with the content of this sender. It is signed only by
-- members and by those who join with a commit (6.1: FramedContentTBS).
abbrev pub signed_context : GroupContext → Sender → Option GroupContext
signed_context context (senders.Member _) = Some context
signed_context context (senders.External _) = None
signed_context context senders.NewMemberProposal = None
signed_context context senders.NewMemberCommit = Some context

-- `external_sender_key xs k` is the signature key of the k-th of these external senders. The first one is 0.
abbrev pub external_sender_key : List ExternalSender → ℕ → Option (List ℕ)
external_sender_key [] k = None
external_sender_key (x ∷ xs) zero = Some x.signature_key
external_sender_key (x ∷ xs) (suc k) = external_sender_key xs k

-- `external_key_among listed k` is the signature key of the external sender with index k (12.1.8), among those of the
-- extension external_senders. `None` if there is none, or if the extension cannot be read (own rule).
abbrev pub external_key_among : Option (List ExternalSender) → ℕ → Option (List ℕ)
external_key_among listed k = option_and_then (λ xs. external_sender_key xs k) listed

-- `external_key extensions k` is the signature key of the external sender with index k (12.1.8) of a group with these
-- extensions.
abbrev pub external_key : List Extension → ℕ → Option (List ℕ)
external_key extensions k = external_key_among (senders_by extensions) k

-- `added_signature_key p` is the signature key of the client that an Add adds.
abbrev pub added_signature_key : Proposal → Option (List ℕ)
added_signature_key (proposals.Add k) = Some k.leaf_node.signature_key
added_signature_key (proposals.Update _) = None
added_signature_key (proposals.Remove _) = None
added_signature_key (proposals.ContextExtensions _) = None
added_signature_key (proposals.PreSharedKey _) = None
added_signature_key (proposals.ReInit _) = None
added_signature_key (proposals.ExternalInit _) = None

-- `joiner_key c` is the signature key of a client that proposes its own Add (12.1.8).
abbrev pub joiner_key : Content → Option (List ℕ)
joiner_key (contents.Application _) = None
joiner_key (contents.Proposal p) = added_signature_key p
joiner_key (contents.Commit _) = None

-- `path_key path` is the signature key of the leaf node of a path, if there is one.
abbrev pub path_key : Option UpdatePath → Option (List ℕ)
path_key None = None
path_key (Some path) = Some path.leaf_node.signature_key

-- `committer_key c` is the signature key of a client that joins with a commit: that of its path's leaf node (12.4.3.2).
abbrev pub committer_key : Content → Option (List ℕ)
committer_key (contents.Application _) = None
committer_key (contents.Proposal _) = None
committer_key (contents.Commit c) = path_key c.path

-- `outside_key_among listed sender c` is the key of a sender that is no member, in a group with these external senders.
abbrev pub outside_key_among : Option (List ExternalSender) → Sender → Content → Option (List ℕ)
outside_key_among listed (senders.Member _) c = None
outside_key_among listed (senders.External k) c = external_key_among listed k
outside_key_among listed senders.NewMemberProposal c = joiner_key c
outside_key_among listed senders.NewMemberCommit c = committer_key c

-- `outside_key context sender c` is the key of a sender that is no member, in the group of this context.
abbrev pub outside_key : GroupContext → Sender → Content → Option (List ℕ)
outside_key context sender c = outside_key_among (senders_by context.extensions) sender c

-- `leaf_key o` is the signature key of a leaf node, if it is non-blank.
abbrev pub leaf_key : Option LeafNode → Option (List ℕ)
leaf_key None = None
leaf_key (Some x) = Some x.signature_key

-- `signing_key context t sender c` is the key under which the signature of a content is verified (6.1): that of a member's
-- leaf in the tree `t`, or that of a sender outside the group.
abbrev pub signing_key : GroupContext → Tree → Sender → Content → Option (List ℕ)
signing_key context t (senders.Member i) c = leaf_key (leaf_at 0 t i)
signing_key context t (senders.External k) c = outside_key context (senders.External k) c
signing_key context t senders.NewMemberProposal c = outside_key context senders.NewMemberProposal c
signing_key context t senders.NewMemberCommit c = outside_key context senders.NewMemberCommit c

-- `is_external_proposal p`: an external sender may send the proposal (12.1.8).
abbrev pub is_external_proposal : Proposal → Bool
is_external_proposal (proposals.Add _) = true
is_external_proposal (proposals.Update _) = false
is_external_proposal (proposals.Remove _) = true
is_external_proposal (proposals.ContextExtensions _) = true
is_external_proposal (proposals.PreSharedKey _) = true
is_external_proposal (proposals.ReInit _) = true
is_external_proposal (proposals.ExternalInit _) = false

-- `may_propose sender p`: the sender may send the proposal. A member may send any, a client that proposes to join only an
-- Add, and a client that joins with a commit none (6.1, 12.1.8).
abbrev pub may_propose : Sender → Proposal → Bool
may_propose (senders.Member _) p = true
may_propose (senders.External _) p = is_external_proposal p
may_propose senders.NewMemberProposal p = is_some (added_signature_key p)
may_propose senders.NewMemberCommit p = false
