-- The message of an entry: a proposal that was accepted is acceptable again with an empty membership tag, without strict rules.
use Rattle.std.proofs.Common.{◌≡◌, ◌∙◌, ℕ, ◌≤◌, List, [], ◌∷◌, ◌++◌, length, false, Option, Some, None, refl, sym, ap, arith, length-append}
use Rattle.std.specs.Prelude.{nat_eq}
use Rattle.std.proofs.lemmas.Bool.{eqb-true}
use Rattle.std.proofs.lemmas.Option.{none-some}
use Rattle.mls_wire.specs.Encoding.{◌⊕◌, length_form, vector}
use Rattle.mls_wire.specs.EncodingConcat.{join, joined}
use Rattle.mls_wire.specs.OptionBind.{allowed}
use Rattle.mls_wire.specs.VectorsExact.{vector_long}
use Rattle.mls_nodes.specs.declared.context.GroupContext.{GroupContext}
use Rattle.mls_msgs.specs.Authenticated.{frame_auth, signed_frame, tag_if}
use Rattle.mls_msgs.specs.Layout.{framed_content, is_commit, is_member}
use Rattle.mls_msgs.specs.Message.{header, message}
use Rattle.mls_msgs.specs.PublicMessage.{public_frame, public_message}
use Rattle.mls_msgs.specs.declared.authenticated.AuthenticatedParts.{AuthenticatedParts}
use Rattle.mls_msgs.specs.declared.framed_content.Content.TheVariants as contents
use Rattle.mls_msgs.specs.declared.framed_content.Sender.{Sender}
use Rattle.mls_msgs.specs.declared.framed_content.Sender.TheVariants as senders
use Rattle.mls_msgs.specs.declared.message.Message.TheVariants as messages
use Rattle.mls_msgs.specs.declared.profile.Profile.{Profile}
use Rattle.mls_msgs.specs.declared.proposal.Proposal.{Proposal}
use Rattle.mls_msgs.specs.declared.public_message.PublicParts.{PublicParts}
use Rattle.mls_apply.specs.PendingContent.{authenticated_of}
use Rattle.mls_follow.specs.State.{EncodesMessage}
use Rattle.mls_follow.specs.NextState.{pending_proposal}
use Rattle.mls_follow.specs.Resumption.{entry_message, tag_of_entry}

-- ---- encodings

empty_vector : vector [] ≡ Some (0 ∷ [])
unfolding vector length_form ◌⊕◌
empty_vector = refl

-- a membership tag is no shorter than the one of an entry
shorter_tag : (sender : Sender) (tag : Option (List ℕ)) (t : List ℕ) → tag_if (is_member sender) tag ≡ Some t
    → (u : List ℕ) × (tag_if (is_member sender) (tag_of_entry sender) ≡ Some u) × (length u ≤ length t)
unfolding tag_if
shorter_tag (senders.Member i) None t e = absurd (none-some t e)
shorter_tag (senders.Member i) (Some tag) t e = (0 ∷ [], empty_vector, vector_long tag t e)
shorter_tag (senders.External i) None t e = ([], refl, omega arith)
shorter_tag (senders.External i) (Some tag) t e = absurd (none-some t e)
shorter_tag senders.NewMemberProposal None t e = ([], refl, omega arith)
shorter_tag senders.NewMemberProposal (Some tag) t e = absurd (none-some t e)
shorter_tag senders.NewMemberCommit None t e = ([], refl, omega arith)
shorter_tag senders.NewMemberCommit (Some tag) t e = absurd (none-some t e)

-- the parts of an encoded PublicMessage
record HasParts (m : PublicParts) (bytes : List ℕ) : Type 0 where
  head : List ℕ
  frame : List ℕ
  tag : List ℕ
  head_is : header 1 ≡ Some head
  frame_is : public_frame m.auth ≡ Some frame
  tag_is : tag_if (is_member m.auth.content.sender) m.membership_tag ≡ Some tag
  bytes_are : bytes ≡ head ++ (frame ++ tag)

message_parts : (m : PublicParts) (bytes : List ℕ) → message (messages.Public m) ≡ Some bytes → HasParts m bytes
unfolding message public_message
message_parts m bytes e =
    let whole = joined (header 1) (public_frame m.auth ⊕ tag_if (is_member m.auth.content.sender) m.membership_tag) bytes e in
    let body = joined (public_frame m.auth) (tag_if (is_member m.auth.content.sender) m.membership_tag) whole.1 whole.3 in
    record {
      head = whole.0;
      frame = body.0;
      tag = body.1;
      head_is = whole.2;
      frame_is = body.2;
      tag_is = body.3;
      bytes_are = whole.4 ∙ ap (λ (s : List ℕ). whole.0 ++ s) body.4;
    }

entry_bytes : (a : AuthenticatedParts) (head frame u : List ℕ) → header 1 ≡ Some head → public_frame a ≡ Some frame
    → tag_if (is_member a.content.sender) (tag_of_entry a.content.sender) ≡ Some u → message (entry_message a) ≡ Some (head ++ (frame ++ u))
unfolding message public_message
entry_bytes a head frame u h f t =
    join (header 1) (public_frame a ⊕ tag_if (is_member a.content.sender) (tag_of_entry a.content.sender)) head (frame ++ u) h
    (join (public_frame a) (tag_if (is_member a.content.sender) (tag_of_entry a.content.sender)) frame u f t)

-- the message of an entry has an encoding where the message had one that it came from
pub entry_encoded : (profile : Profile) (m : PublicParts) (bytes : List ℕ) → EncodesMessage profile (messages.Public m) bytes
    → (front : List ℕ) × EncodesMessage profile (entry_message m.auth) front
entry_encoded profile m bytes h =
    let p = message_parts m bytes h.encoded in
    let t = shorter_tag m.auth.content.sender m.membership_tag p.tag p.tag_is in (
      p.head ++ (p.frame ++ t.0),
      record {
        encoded = entry_bytes m.auth p.head p.frame t.0 p.head_is p.frame_is t.1;
        allowed = h.allowed;
        bounded = omega (
          arith,
          h.bounded,
          t.2,
          ap length p.bytes_are,
          length-append p.head (p.frame ++ p.tag),
          length-append p.frame p.tag,
          length-append p.head (p.frame ++ t.0),
          length-append p.frame t.0,
        );
      },
    )

-- ---- what is signed of a pending proposal

untagged : (tag : Option (List ℕ)) (t : List ℕ) → tag_if false tag ≡ Some t → tag ≡ None
unfolding tag_if
untagged None t e = refl
untagged (Some tag) t e = absurd (none-some t e)

frame_format : (a : AuthenticatedParts) (frame : List ℕ) → public_frame a ≡ Some frame → (a.wire_format ≡ 1) × (signed_frame a ≡ Some frame)
unfolding public_frame
frame_format a frame e =
    let k = allowed (nat_eq a.wire_format 1) (signed_frame a) frame e in (eqb-true a.wire_format 1 k.0, k.1)

frame_untagged : (a : AuthenticatedParts) (p : Proposal) (frame : List ℕ) → signed_frame a ≡ Some frame → a.content.content ≡ contents.Proposal p
    → a.confirmation_tag ≡ None
unfolding signed_frame frame_auth
frame_untagged a p frame e content =
    let whole = joined (framed_content a.content) (frame_auth (is_commit a.content.content) (a.signature, a.confirmation_tag)) frame e in
    let auth = joined (vector a.signature) (tag_if (is_commit a.content.content) a.confirmation_tag) whole.1 whole.3 in
    untagged a.confirmation_tag auth.1 (ap (λ c. tag_if (is_commit c) a.confirmation_tag) (sym content) ∙ auth.3)

-- a proposal of the group and the epoch is what is kept of it
pub content_again : (context : GroupContext) (a : AuthenticatedParts) (p : Proposal) (reference : List ℕ) → a.wire_format ≡ 1
    → a.content.group_id ≡ context.group_id → a.content.epoch ≡ context.epoch → a.content.content ≡ contents.Proposal p → a.confirmation_tag ≡ None
    → authenticated_of context (pending_proposal a a.content.sender p reference) ≡ a
content_again context a p reference format group epoch content tag = λ i. record {
  wire_format = sym format i;
  content = record {
    group_id = sym group i;
    epoch = sym epoch i;
    sender = a.content.sender;
    authenticated = a.content.authenticated;
    content = sym content i;
  };
  signature = a.signature;
  confirmation_tag = sym tag i;
}

-- the format of a PublicMessage that has an encoding
pub public_format : (m : PublicParts) (bytes : List ℕ) → message (messages.Public m) ≡ Some bytes → m.auth.wire_format ≡ 1
public_format m bytes e =
    let parts = message_parts m bytes e in (frame_format m.auth parts.frame parts.frame_is).0

-- the format and the tag of a proposal that has an encoding
pub proposal_format : (m : PublicParts) (bytes : List ℕ) (p : Proposal) → message (messages.Public m) ≡ Some bytes → m.auth.content.content ≡ contents.Proposal p
    → (m.auth.wire_format ≡ 1) × (m.auth.confirmation_tag ≡ None)
proposal_format m bytes p e content =
    let parts = message_parts m bytes e in
    let f = frame_format m.auth parts.frame parts.frame_is in
    (f.0, frame_untagged m.auth p parts.frame f.1 content)
