-- The facts of a message that do not depend on a group (RFC 9420, 6, 6.1, 12.1 and 12.4). Used by contracts.
use Rattle.std.specs.Prelude.{◌≡◌, ℕ, ◌==◌, List, [], ◌∷◌, Bool, true, false, Option, Some, None, option_map, count_by}
use Rattle.mls_nodes.specs.declared.leaf.LeafNode.{LeafNode}
use Rattle.mls_msgs.specs.PrivateMessage.{private_message}
use Rattle.mls_msgs.specs.declared.framed_content.Content.{Content}
use Rattle.mls_msgs.specs.declared.framed_content.Content.TheVariants as contents
use Rattle.mls_msgs.specs.declared.framed_content.FramedContent.{FramedContent}
use Rattle.mls_msgs.specs.declared.framed_content.Sender.{Sender}
use Rattle.mls_msgs.specs.declared.framed_content.Sender.TheVariants.{Member, External, NewMemberProposal, NewMemberCommit}
use Rattle.mls_msgs.specs.declared.message.Message.{Message}
use Rattle.mls_msgs.specs.declared.message.Message.TheVariants as messages
use Rattle.mls_msgs.specs.declared.private_message.PrivateContent.{PrivateContent}
use Rattle.mls_msgs.specs.declared.private_message.PrivateContent.TheVariants as privates
use Rattle.mls_msgs.specs.declared.proposal.Proposal.{Proposal}
use Rattle.mls_msgs.specs.declared.proposal.Proposal.TheVariants as proposals
use Rattle.mls_msgs.specs.declared.proposal.ProposalOrRef.{ProposalOrRef}
use Rattle.mls_msgs.specs.declared.proposal.ProposalOrRef.TheVariants as entries
use Rattle.mls_facts.specs.declared.proposal_counts.ProposalCounts.{ProposalCounts}

-- ---- the message

-- `wire_format_of m` is the wire format of a message (6): 1 PublicMessage, 2 PrivateMessage, 3 Welcome, 4 GroupInfo,
-- 5 KeyPackage.
abbrev pub wire_format_of : Message → ℕ
wire_format_of (messages.Public _) = 1
wire_format_of (messages.Unread format _) = format
wire_format_of (messages.GroupInfo _) = 4
wire_format_of (messages.KeyPackage _) = 5

-- `public_content m` is the FramedContent of a PublicMessage (6.2).
abbrev pub public_content : Message → Option FramedContent
public_content (messages.Public p) = Some p.auth.content
public_content (messages.Unread _ _) = None
public_content (messages.GroupInfo _) = None
public_content (messages.KeyPackage _) = None

-- ---- the group, the epoch and the content type

-- `type_of_content c` is the ContentType of a content (6).
abbrev pub type_of_content : Content → ℕ
type_of_content (contents.Application _) = 1
type_of_content (contents.Proposal _) = 2
type_of_content (contents.Commit _) = 3

-- `type_of_private c` is the ContentType of a content that is encrypted (6 and 6.3).
abbrev pub type_of_private : PrivateContent → ℕ
type_of_private privates.Application = 1
type_of_private privates.Proposal = 2
type_of_private privates.Commit = 3

-- `Encodes encoding bytes P`: the bytes are the encoding of a value for which `P` holds.
abbrev pub Encodes : {A : Type 0} → (A → Option (List ℕ)) → List ℕ → (A → Type 0) → Type 0
Encodes {A} encoding bytes P = (x : A) × (encoding x ≡ Some bytes) × P x

-- `EncodesNothing encoding bytes`: the bytes are the encoding of no value.
abbrev pub EncodesNothing : {A : Type 0} → (A → Option (List ℕ)) → List ℕ → Type 0
EncodesNothing {A} encoding bytes = (x : A) → encoding x ≡ Some bytes → ⊥

-- `NamesNothing id e content_type`: there is no group ID, no epoch and no content type.
abbrev pub NamesNothing : Option (List ℕ) → Option ℕ → Option ℕ → Type 0
NamesNothing id e content_type = (id ≡ None) × (e ≡ None) × (content_type ≡ None)

-- `UnreadNames format body id e content_type`: this is the group ID, the epoch and the content type of the PrivateMessage that
-- the body encodes (6.3). Each is `None` if the wire format is not 2 or the body encodes no PrivateMessage.
pub data UnreadNames (format : ℕ) (body : List ℕ) (id : Option (List ℕ)) (e content_type : Option ℕ) : Type 0 where
  reads : format ≡ 2
      → Encodes private_message body (λ p. (id ≡ Some p.group_id) × (e ≡ Some p.epoch)
      × (content_type ≡ Some (type_of_private p.content_type)))
      → UnreadNames format body id e content_type
  none : (format ≡ 2 → EncodesNothing private_message body) → NamesNothing id e content_type
      → UnreadNames format body id e content_type

-- `NamesGroup m id e content_type`: this is the group ID, the epoch and the content type of a PublicMessage (6) and of a
-- PrivateMessage (6.3), and the group ID and the epoch in the GroupContext of a GroupInfo (12.4.3). Each is `None` if the message
-- does not have it.
abbrev pub NamesGroup : Message → Option (List ℕ) → Option ℕ → Option ℕ → Type 0
NamesGroup (messages.Public p) id e content_type =
    (id ≡ Some p.auth.content.group_id) × (e ≡ Some p.auth.content.epoch)
    × (content_type ≡ Some (type_of_content p.auth.content.content))
NamesGroup (messages.Unread format body) id e content_type = UnreadNames format body id e content_type
NamesGroup (messages.GroupInfo g) id e content_type =
    (id ≡ Some g.context.group_id) × (e ≡ Some g.context.epoch) × (content_type ≡ None)
NamesGroup (messages.KeyPackage _) id e content_type = NamesNothing id e content_type

-- ---- the sender

-- `sender_of m` is the sender of a PublicMessage (6). That of a PrivateMessage is encrypted.
abbrev pub sender_of : Message → Option Sender
sender_of m = option_map (λ f. f.sender) (public_content m)

-- `added_leaf p` is the leaf node of the KeyPackage of an Add (12.1.1).
abbrev pub added_leaf : Proposal → Option LeafNode
added_leaf (proposals.Add k) = Some k.leaf_node
added_leaf (proposals.Update _) = None
added_leaf (proposals.Remove _) = None
added_leaf (proposals.PreSharedKey _) = None
added_leaf (proposals.ReInit _) = None
added_leaf (proposals.ExternalInit _) = None
added_leaf (proposals.ContextExtensions _) = None

-- `proposed_leaf c` is the leaf node of a client that proposes its own Add (6.1: new_member_proposal).
abbrev pub proposed_leaf : Content → Option LeafNode
proposed_leaf (contents.Application _) = None
proposed_leaf (contents.Proposal p) = added_leaf p
proposed_leaf (contents.Commit _) = None

-- `committed_leaf c` is the leaf node in the path of a client that joins with a commit (6.1: new_member_commit).
abbrev pub committed_leaf : Content → Option LeafNode
committed_leaf (contents.Application _) = None
committed_leaf (contents.Proposal _) = None
committed_leaf (contents.Commit c) = option_map (λ p. p.leaf_node) c.path

-- `sender_leaf s c` is the leaf node that the sender sends of itself to join (6.1).
abbrev pub sender_leaf : Sender → Content → Option LeafNode
sender_leaf (Member _) c = None
sender_leaf (External _) c = None
sender_leaf NewMemberProposal c = proposed_leaf c
sender_leaf NewMemberCommit c = committed_leaf c

-- `signature_key_of m` is the signature key in a message: of the KeyPackage (10), or of a sender of a PublicMessage that joins
-- (6.1).
abbrev pub signature_key_of : Message → Option (List ℕ)
signature_key_of (messages.Public p) = option_map (λ l. l.signature_key) (sender_leaf p.auth.content.sender p.auth.content.content)
signature_key_of (messages.Unread _ _) = None
signature_key_of (messages.GroupInfo _) = None
signature_key_of (messages.KeyPackage k) = Some k.leaf_node.signature_key

-- ---- the proposals

-- `proposal_type p` is the type of a proposal (12.1 and 17.4).
abbrev pub proposal_type : Proposal → ℕ
proposal_type (proposals.Add _) = 1
proposal_type (proposals.Update _) = 2
proposal_type (proposals.Remove _) = 3
proposal_type (proposals.PreSharedKey _) = 4
proposal_type (proposals.ReInit _) = 5
proposal_type (proposals.ExternalInit _) = 6
proposal_type (proposals.ContextExtensions _) = 7

-- `has_type kind e`: the entry of a proposal list is a proposal of this type (12.4).
abbrev pub has_type : ℕ → ProposalOrRef → Bool
has_type kind (entries.Proposal p) = proposal_type p == kind
has_type kind (entries.Reference _) = false

-- `is_reference e`: the entry of a proposal list is a reference (12.4).
abbrev pub is_reference : ProposalOrRef → Bool
is_reference (entries.Proposal _) = false
is_reference (entries.Reference _) = true

-- `type_count kind es` is how many proposals of this type a list has.
abbrev pub type_count : ℕ → List ProposalOrRef → ℕ
type_count kind es = count_by (has_type kind) es

-- `reference_count es` is how many references a list has.
abbrev pub reference_count : List ProposalOrRef → ℕ
reference_count es = count_by is_reference es

-- `list_counts es` is how many proposals of each type a list has, and how many references.
abbrev pub list_counts : List ProposalOrRef → ProposalCounts
list_counts es =
    record {
      adds = type_count 1 es;
      updates = type_count 2 es;
      removes = type_count 3 es;
      psks = type_count 4 es;
      reinits = type_count 5 es;
      external_inits = type_count 6 es;
      group_context_extensions = type_count 7 es;
      references = reference_count es;
    }

-- `content_counts c` is the counts of a proposal, or of the list of a commit.
abbrev pub content_counts : Content → ProposalCounts
content_counts (contents.Application _) = list_counts []
content_counts (contents.Proposal p) = list_counts (entries.Proposal p ∷ [])
content_counts (contents.Commit c) = list_counts c.proposals

-- `framed_counts f` is the counts of a FramedContent, if there is one.
abbrev pub framed_counts : Option FramedContent → ProposalCounts
framed_counts None = list_counts []
framed_counts (Some f) = content_counts f.content

-- `proposal_counts_of m` is the counts of a PublicMessage (12.1 and 12.4). Another message has no proposal that can be read.
abbrev pub proposal_counts_of : Message → ProposalCounts
proposal_counts_of m = framed_counts (public_content m)
