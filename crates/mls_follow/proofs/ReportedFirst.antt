-- Of a proposal its signature is judged first, then whether it is known.
use Rattle.std.proofs.Common.{◌≡◌, ◌∙◌, ℕ, List, ◌∷◌, Bool, true, false, not, Option, Some, None, refl, ap}
use Rattle.std.specs.Prelude.{◌==◌, if◌then◌else◌, is_some}
use Rattle.std.proofs.lemmas.Option.{none-some, same_Some}
use Rattle.std.specs.Str.{bytes_eq}
use Rattle.std.proofs.lemmas.Bool.Decides.{Decides-eqb}
use Rattle.std.proofs.lemmas.Slice.Eq.{bytes_eq-Decides}
use Rattle.mls_nodes.specs.declared.leaf.LeafNode.{LeafNode}
use Rattle.mls_nodes.specs.declared.required_capabilities.RequiredCapabilities.{RequiredCapabilities}
use Rattle.mls_check.specs.Signatures.{VerifyFn}
use Rattle.mls_msgs.specs.declared.authenticated.AuthenticatedParts.{AuthenticatedParts}
use Rattle.mls_tree.specs.Tree.{leaf_at}
use Rattle.mls_msgs.specs.Profile.{is_in}
use Rattle.mls_msgs.specs.declared.framed_content.Content.{Content}
use Rattle.mls_msgs.specs.declared.framed_content.Content.TheVariants as contents
use Rattle.mls_msgs.specs.declared.framed_content.Sender.{Sender}
use Rattle.mls_msgs.specs.declared.framed_content.Sender.TheVariants as senders
use Rattle.mls_msgs.specs.declared.profile.Profile.{Profile}
use Rattle.mls_msgs.specs.declared.profile.Profile.TheVariants.{Members, Full}
use Rattle.mls_msgs.specs.declared.proposal.Proposal.{Proposal}
use Rattle.mls_apply.specs.ProposalRules.{proposal_rules}
use Rattle.mls_apply.specs.RuleLists.{Rule, rule, first_failing}
use Rattle.mls_apply.specs.declared.refusal.Refusal.{Refusal}
use Rattle.mls_apply.specs.declared.refusal.Refusal.TheVariants.{WrongGroup, WrongEpoch, GroupOver, UnknownExternal, SenderContent, BadSignature, KnownProposal}
use Rattle.mls_follow.specs.State.{State}
use Rattle.mls_signatures.specs.SigningKeys.{leaf_key, signing_key, outside_key, may_propose}
use Rattle.mls_follow.specs.ProposalSignatures.{IsProposalUnder, UnsignedIsReportedFirst, KnownIsReportedNext}
use Rattle.mls_follow.specs.MessageRules.{is_new_proposal, is_frame_signed, proposal_message_rules, handshake_rules, signed_rules, leaf_rules, is_sender_supported, is_known_external, signed_proposal_rules, outside_content_rules, outside_rules, if_full, sender_rules, frame_rules}
use Rattle.mls_msgs.specs.declared.message.Message.TheVariants as messages
use Rattle.mls_follow.proofs.StrictLists.{plain_failed}

-- behind a rule that holds the others decide
behind : (e : Refusal) (b : Bool) (rs : List (Rule Refusal)) → b ≡ true → first_failing (rule e b ∷ rs) ≡ first_failing rs
behind e b rs holds = ap (λ (c : Bool). if c then first_failing rs else Some e) holds

-- one that fails is told
reported : (e : Refusal) (b : Bool) (rs : List (Rule Refusal)) → b ≡ false → first_failing (rule e b ∷ rs) ≡ Some e
reported e b rs fails = ap (λ (c : Bool). if c then first_failing rs else Some e) fails

module _ (G : VerifyFn) (s : State) (required : RequiredCapabilities) (a : AuthenticatedParts) (key : List ℕ) (p : Proposal) where
  -- what is left of the rules
  abbrev Rest : List (Rule Refusal)
  Rest = rule BadSignature (is_frame_signed G s.context key a) ∷ proposal_message_rules G s a a.content.sender p

  of_leaf : (i : ℕ) (o : Option LeafNode) → leaf_key o ≡ Some key
      → first_failing (leaf_rules G s required a i o)
      ≡ first_failing (signed_rules G s.context key a (handshake_rules G s required a i a.content.content))
  of_leaf i None h = absurd (none-some key h)
  of_leaf i (Some x) h =
      ap (λ (k : List ℕ). first_failing (signed_rules G s.context k a (handshake_rules G s required a i a.content.content))) (same_Some x.signature_key key h)

  -- a sender outside the group, in the full profile
  module _ (sender : Sender) (content : Content) (is : content ≡ contents.Proposal p) (allowed : may_propose sender p ≡ true) where
    of_key : (o : Option (List ℕ)) → o ≡ Some key
        → first_failing (outside_content_rules G s a sender o content)
        ≡ first_failing (rule BadSignature (is_frame_signed G s.context key a) ∷ proposal_message_rules G s a sender p)
    of_key o has =
        ap (λ (c : Content). first_failing (outside_content_rules G s a sender o c)) is
        ∙ behind SenderContent (may_propose sender p) (signed_proposal_rules G s a sender p o) allowed
        ∙ ap (λ (v : Option (List ℕ)). first_failing (signed_proposal_rules G s a sender p v)) has

  module _ (is : a.content.content ≡ contents.Proposal p) where
    of_full : (profile : Profile) (sender : Sender) → is_in profile false ≡ true → may_propose sender p ≡ true
        → is_known_external s.context.extensions sender ≡ true → outside_key s.context sender a.content.content ≡ Some key
        → first_failing (if_full profile (outside_rules G s a sender))
        ≡ first_failing (rule BadSignature (is_frame_signed G s.context key a) ∷ proposal_message_rules G s a sender p)
    of_full Members sender full allowed known has = absurd (cc)
    of_full Full sender full allowed known has =
        behind UnknownExternal (is_known_external s.context.extensions sender)
        (outside_content_rules G s a sender (outside_key s.context sender a.content.content) a.content.content) known
        ∙ of_key sender a.content.content is allowed (outside_key s.context sender a.content.content) has

    of_sender : (sender : Sender) → is_sender_supported s.profile sender ≡ true → may_propose sender p ≡ true
        → signing_key s.context s.tree sender a.content.content ≡ Some key
        → first_failing (sender_rules G s required a sender)
        ≡ first_failing (rule BadSignature (is_frame_signed G s.context key a) ∷ proposal_message_rules G s a sender p)
    of_sender (senders.Member i) followed allowed has =
        of_leaf i (leaf_at 0 s.tree i) has
        ∙ ap (λ (c : Content). first_failing (signed_rules G s.context key a (handshake_rules G s required a i c))) is
    of_sender (senders.External k) followed allowed has = of_full s.profile (senders.External k) followed allowed (ap is_some has) has
    of_sender senders.NewMemberProposal followed allowed has = of_full s.profile senders.NewMemberProposal followed allowed refl has
    of_sender senders.NewMemberCommit followed allowed has = absurd (cc)

  module _ (h : IsProposalUnder s a key p) where
    -- the group, the epoch and the sender are in order
    framed : first_failing (frame_rules G s required a) ≡ first_failing Rest
    framed =
        behind WrongGroup (bytes_eq a.content.group_id s.context.group_id)
        (rule WrongEpoch (a.content.epoch == s.context.epoch) ∷ rule GroupOver (not s.ended) ∷ sender_rules G s required a a.content.sender)
        ((bytes_eq-Decides a.content.group_id s.context.group_id).1 h.group)
        ∙ behind WrongEpoch (a.content.epoch == s.context.epoch) (rule GroupOver (not s.ended) ∷ sender_rules G s required a a.content.sender)
        ((Decides-eqb a.content.epoch s.context.epoch).1 h.epoch)
        ∙ behind GroupOver (not s.ended) (sender_rules G s required a a.content.sender) (ap not h.going)
        ∙ of_sender h.content a.content.sender h.supported h.allowed h.signer

    unsigned : is_frame_signed G s.context key a ≡ false → first_failing (frame_rules G s required a) ≡ Some BadSignature
    unsigned bad = framed ∙ reported BadSignature (is_frame_signed G s.context key a) (proposal_message_rules G s a a.content.sender p) bad

    known : is_frame_signed G s.context key a ≡ true → is_new_proposal s a ≡ false
        → first_failing (frame_rules G s required a) ≡ Some KnownProposal
    known signed old =
        framed ∙ behind BadSignature (is_frame_signed G s.context key a) (proposal_message_rules G s a a.content.sender p) signed
        ∙ reported KnownProposal (is_new_proposal s a) (proposal_rules G s.context s.tree a.content.sender p) old

pub unsigned_first : UnsignedIsReportedFirst
unsigned_first G s required m key p h bad = plain_failed G s required (messages.Public m) BadSignature (unsigned G s required m.auth key p h bad)

pub known_next : KnownIsReportedNext
known_next G s required m key p h signed old = plain_failed G s required (messages.Public m) KnownProposal (known G s required m.auth key p h signed old)
