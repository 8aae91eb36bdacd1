-- Two verification functions that agree on the signatures of a state agree on whether a follower resumes in it.
use Rattle.std.proofs.Common.{◌≡◌, ℕ, ◌++◌, List, [], ◌∷◌, map, Bool, true, false, Option, Some, None, refl, sym, ap, ◌∙◌, subst}
use Rattle.std.specs.Prelude.{◌==◌, ◌&&◌, if◌then◌else◌}
use Rattle.std.specs.Str.{bytes_eq}
use Rattle.std.proofs.lemmas.List.{append-nil}
use Rattle.std.proofs.lemmas.List.Elements.{All-nil}
use Rattle.mls_nodes.specs.declared.context.GroupContext.{GroupContext}
use Rattle.mls_nodes.specs.declared.leaf.LeafNode.{LeafNode}
use Rattle.mls_nodes.specs.declared.required_capabilities.RequiredCapabilities.{RequiredCapabilities}
use Rattle.mls_tree.specs.Tree.{Tree, leaf_at}
use Rattle.mls_tree.specs.RatchetTree.{RatchetTree}
use Rattle.mls_check.specs.GroupTree.{HasMembers}
use Rattle.mls_check.specs.LeafValidation.{is_leaf_signed}
use Rattle.mls_check.specs.Signatures.{VerifyFn}
use Rattle.mls_msgs.specs.declared.authenticated.AuthenticatedParts.{AuthenticatedParts}
use Rattle.mls_msgs.specs.declared.framed_content.Content.TheVariants as contents
use Rattle.mls_msgs.specs.declared.framed_content.Sender.{Sender}
use Rattle.mls_msgs.specs.declared.framed_content.Sender.TheVariants as senders
use Rattle.mls_msgs.specs.declared.message.Message.{Message}
use Rattle.mls_msgs.specs.declared.message.Message.TheVariants as messages
use Rattle.mls_msgs.specs.declared.profile.Profile.{Profile}
use Rattle.mls_msgs.specs.declared.profile.Profile.TheVariants.{Members, Full}
use Rattle.mls_msgs.specs.declared.proposal.Proposal.{Proposal}
use Rattle.mls_apply.specs.PendingContent.{authenticated_of}
use Rattle.mls_apply.specs.declared.list_item.KnownProposal.{KnownProposal}
use Rattle.mls_signatures.specs.Agreement.{AgreeOn, Agrees}
use Rattle.mls_signatures.specs.SignaturesToVerify.{all_message_signatures, all_resumption_signatures, commit_signatures, framed_content_signatures, in_full, is_supported_context, member_signatures, outside_signatures, pending_proposal_signatures, pending_signatures, proposal_signatures, resumption_signatures, sender_signatures, tree_signatures}
use Rattle.mls_signatures.specs.SigningKeys.{leaf_key, may_propose, outside_key, signing_key}
use Rattle.mls_signatures.specs.declared.signature_to_verify.SignatureToVerify.{SignatureToVerify}
use Rattle.mls_signatures.proofs.SupportedContexts.{passes_context}
use Rattle.mls_signatures.proofs.Agreement.{front, back, from_deduplicated, given}
use Rattle.mls_follow.specs.Acceptance.{IsAcceptable}
use Rattle.mls_follow.specs.Resumption.{HoldEntries, Holds, base_state, entry_message}
use Rattle.mls_follow.specs.State.{State}
use Rattle.mls_follow.specs.StoredRuns.{SignaturesDetermineResumption}
use Rattle.mls_follow.proofs.AcceptedProposals.{IsAccepted, accepted_proposal}
use Rattle.mls_follow.proofs.Answering.{one_message}
use Rattle.mls_follow.proofs.MessageAgreement.{messages_alike}
use Rattle.mls_follow.proofs.StrictLists.{all_alike}
use Rattle.mls_follow.proofs.SignatureAgreement.{tree_leaf, leaf_alike, members_alike}

-- the AuthenticatedContent of a PublicMessage
abbrev content_of : AuthenticatedParts → Message → AuthenticatedParts
content_of other (messages.Public p) = p.auth
content_of other (messages.Unread wire_format body) = other
content_of other (messages.GroupInfo info) = other
content_of other (messages.KeyPackage k) = other

-- the proposals that entries are of
held_pending : (G : VerifyFn) (s : State) (es : List AuthenticatedParts) (new : State) → HoldEntries G s es new
    → (ks : List KnownProposal) × (es ≡ map (authenticated_of s.context) ks) × (new ≡ record s { known = s.known ++ ks })
held_pending G s [] new h = ([], refl, h ∙ (λ i. record s { known = sym (append-nil s.known) i }))
held_pending G s (a ∷ es) new h =
    let one = accepted_proposal G s h.1.accepts.bytes h.1.accepts.reference h.0 h.1.accepts.accepted in
    let own : authenticated_of s.context one.pending ≡ a = one.content_is ∙ message_of G s a h.0 h.1 one in
    let rest = held_pending G (record s { known = s.known ++ one.pending ∷ [] }) es new (subst (λ (t : State). HoldEntries G t es new) one.new_is h.2) in (
      one.pending ∷ rest.0,
      (λ i. sym own i ∷ rest.1 i),
      rest.2 ∙ (λ i. record s { known = append_one s.known one.pending rest.0 i }),
    )
  where
    append_one : (xs : List KnownProposal) (x : KnownProposal) (ys : List KnownProposal) → (xs ++ x ∷ []) ++ ys ≡ xs ++ x ∷ ys
    append_one [] x ys = refl
    append_one (y ∷ xs) x ys = ap (λ (zs : List KnownProposal). y ∷ zs) (append_one xs x ys)

    message_of : (G : VerifyFn) (s : State) (a : AuthenticatedParts) (mid : State) (h : Holds G s a mid) (one : IsAccepted G s h.accepts.bytes mid) → one.message_is.auth ≡ a
    message_of G s a mid h one =
        ap (content_of a) (one_message (messages.Public one.message_is) (entry_message a) h.accepts.bytes one.encoded h.accepts.encoded)

module _ (G K : VerifyFn) where
  -- ---- pending proposals

  agree_none : AgreeOn G K []
  agree_none = All-nil (Agrees G K)

  agree_if : (b : Bool) (qs : List SignatureToVerify) → AgreeOn G K qs → AgreeOn G K (if b then qs else [])
  agree_if true qs h = h
  agree_if false qs h = agree_none

  -- the signatures of a pending proposal are those of its message
  module _ (context : GroupContext) (known : List KnownProposal) (t : Tree) (reference : List ℕ) (p : Proposal) (bytes signature : List ℕ) where
    abbrev of : Sender → KnownProposal
    of sender = record { reference = reference; sender = sender; proposal = p; authenticated_data = bytes; signature = signature }

    abbrev Agreed : Sender → Option (List ℕ) → Type 0
    Agreed sender key = AgreeOn G K (pending_proposal_signatures context (of sender) key)

    by_leaf : (i : ℕ) (o : Option LeafNode) → Agreed (senders.Member i) (leaf_key o) → AgreeOn G K (member_signatures commit_signatures context known t (authenticated_of context (of (senders.Member i))) i o)
    by_leaf i None h = agree_none
    by_leaf i (Some x) h = h

    by_key : (sender : Sender) (key : Option (List ℕ)) → Agreed sender key → AgreeOn G K (outside_signatures context (authenticated_of context (of sender)) sender key)
    by_key sender None h = agree_none
    by_key sender (Some key) h =
        agree_if (may_propose sender p) (framed_content_signatures context key (authenticated_of context (of sender)) ++ proposal_signatures context sender p) h

    in_profile : (profile : Profile) (qs : List SignatureToVerify) → AgreeOn G K qs → AgreeOn G K (in_full profile qs)
    in_profile Members qs h = agree_none
    in_profile Full qs h = h

    by_sender : (profile : Profile) (sender : Sender) → Agreed sender (signing_key context t sender (contents.Proposal p))
        → AgreeOn G K (sender_signatures commit_signatures profile context known t (authenticated_of context (of sender)) sender)
    by_sender profile (senders.Member i) h = by_leaf i (leaf_at 0 t i) h
    by_sender profile (senders.External j) h =
        in_profile profile _ (by_key (senders.External j) (outside_key context (senders.External j) (contents.Proposal p)) h)
    by_sender profile senders.NewMemberProposal h =
        in_profile profile _ (by_key senders.NewMemberProposal (outside_key context senders.NewMemberProposal (contents.Proposal p)) h)
    by_sender profile senders.NewMemberCommit h = in_profile profile [] agree_none

  entry_agrees : (profile : Profile) (context : GroupContext) (known : List KnownProposal) (t : Tree) (k : KnownProposal)
      → AgreeOn G K (pending_proposal_signatures context k (signing_key context t k.sender (contents.Proposal k.proposal)))
      → AgreeOn G K (all_message_signatures commit_signatures profile context known t (entry_message (authenticated_of context k)))
  entry_agrees profile context known t k h =
      agree_if (bytes_eq context.group_id context.group_id && context.epoch == context.epoch) (sender_signatures commit_signatures profile context known t (authenticated_of context k) k.sender)
      (by_sender context known t k.reference k.proposal k.authenticated_data k.signature profile k.sender h)

  -- an entry is held by one as by the other
  holds_one : (s : State) (k : KnownProposal) (new : State) → AgreeOn G K (tree_signatures s.context.cipher_suite s.context.group_id 0 s.tree)
      → AgreeOn G K (pending_proposal_signatures s.context k (signing_key s.context s.tree k.sender (contents.Proposal k.proposal)))
      → Holds G s (authenticated_of s.context k) new → Holds K s (authenticated_of s.context k) new
  holds_one s k new old own h =
      let a : IsAcceptable G s h.accepts.bytes = h.accepts.accepted.0 in
      let same : entry_message (authenticated_of s.context k) ≡ a.message = one_message (entry_message (authenticated_of s.context k)) a.message h.accepts.bytes h.accepts.encoded a.encoded in
      let needed : AgreeOn G K (all_message_signatures commit_signatures s.profile s.context s.known s.tree a.message) =
      subst (λ (m : Message). AgreeOn G K (all_message_signatures commit_signatures s.profile s.context s.known s.tree m)) same (entry_agrees s.profile s.context s.known s.tree k own) in
      let alike = all_alike G K s a.required a.message (messages_alike G K s a.required old a.message (λ going. needed)) in
      record {
        format = h.format;
        accepts = record {
          bytes = h.accepts.bytes;
          encoded = h.accepts.encoded;
          reference = h.accepts.reference;
          accepted = (
            record { message = a.message; encoded = a.encoded; required = a.required; requires = a.requires; rules_hold = sym alike ∙ a.rules_hold },
            h.accepts.accepted.1,
          );
        };
      }

  holds_moves : (s : State) (ks : List KnownProposal) (new : State) → AgreeOn G K (tree_signatures s.context.cipher_suite s.context.group_id 0 s.tree)
      → AgreeOn G K (pending_signatures s.context s.tree ks) → HoldEntries G s (map (authenticated_of s.context) ks) new → HoldEntries K s (map (authenticated_of s.context) ks) new
  holds_moves s [] new old agree h = h
  holds_moves s (k ∷ ks) new old agree h =
      let own = pending_proposal_signatures s.context k (signing_key s.context s.tree k.sender (contents.Proposal k.proposal)) in
      let others = pending_signatures s.context s.tree ks in
      let one = accepted_proposal G s h.1.accepts.bytes h.1.accepts.reference h.0 h.1.accepts.accepted in
      let mid : State = record s { known = s.known ++ one.pending ∷ [] } in (
        mid,
        subst (λ (t : State). Holds K s (authenticated_of s.context k) t) one.new_is (holds_one s k h.0 old (front G K own others agree) h.1),
        holds_moves mid ks new old (back G K own others agree) (subst (λ (t : State). HoldEntries G t (map (authenticated_of s.context) ks) new) one.new_is h.2),
      )

  -- ---- the leaves

  members_move : (context : GroupContext) (t : RatchetTree) (required : RequiredCapabilities)
      → AgreeOn G K (tree_signatures context.cipher_suite context.group_id 0 t.tree) → HasMembers G context (λ u. u ≡ t) t required
      → HasMembers K context (λ u. u ≡ t) t required
  members_move context t required agree m =
      let alike : (i : ℕ) (x : LeafNode) → leaf_at 0 t.tree i ≡ Some x
      → is_leaf_signed G context.cipher_suite context.group_id i x ≡ is_leaf_signed K context.cipher_suite context.group_id i x =
      λ i x e. leaf_alike G K context.cipher_suite context.group_id i x (tree_leaf G K context.cipher_suite context.group_id 0 t.tree agree i x e) in
      record { valid_tree = m.valid_tree; members = members_alike G K context.cipher_suite context.group_id required t.tree alike m.members }

-- ---- a state

pub decide_resumptions : SignaturesDetermineResumption
decide_resumptions G K bytes s agree h =
    let base = base_state h.content h.tree in
    let plain = h.state.is_plain in
    let held = held_pending G base h.content.known plain.with_pending plain.held in
    let context = h.content.context in
    let leaves = tree_signatures context.cipher_suite context.group_id 0 h.tree.tree in
    let pending = pending_signatures context h.tree.tree held.0 in
    let interim = plain.has_interim in
    let whole : (s ≡ record base { known = held.0; added = h.content.added; rules = h.state.made_strict.all }) =
    h.state.made_strict.state
    ∙ ap (λ (u : State). record u { rules = h.state.made_strict.all }) (plain.state ∙ ap (λ (u : State). record u { added = h.content.added }) held.2) in
    let moved : AgreeOn G K (resumption_signatures context h.tree.tree held.0) =
    subst (λ (u : State). AgreeOn G K (resumption_signatures u.context u.tree u.known)) whole agree in
    let all : AgreeOn G K (leaves ++ pending) =
    given G K (is_supported_context context) (leaves ++ pending) (passes_context context interim.has_members.valid_tree.readable.has_tree.supported)
    (from_deduplicated G K (all_resumption_signatures context h.tree.tree held.0) moved) in
    let entries : HoldEntries K base h.content.known plain.with_pending =
    subst (λ (es : List AuthenticatedParts). HoldEntries K base es plain.with_pending) (sym held.1)
    (holds_moves G K base held.0 plain.with_pending (front G K leaves pending all) (back G K leaves pending all)
    (subst (λ (es : List AuthenticatedParts). HoldEntries G base es plain.with_pending) held.1 plain.held)) in
    record {
      content = h.content;
      tree = h.tree;
      intact = h.intact;
      state = record {
        without_rules = h.state.without_rules;
        is_plain = record {
          has_interim = record {
            required = interim.required;
            has_members = members_move G K context h.tree interim.required (front G K leaves pending all) interim.has_members;
            hashed = interim.hashed;
          };
          with_pending = plain.with_pending;
          held = entries;
          added_fit = plain.added_fit;
          state = plain.state;
        };
        made_strict = h.state.made_strict;
      };
    }
