-- Each proposal that a follower knows is one that its sender has signed, and may send.
use Rattle.std.proofs.Common.{◌≡◌, ◌∙◌, ℕ, List, [], ◌∷◌, true, Option, Some, None, Result, Ok, Err, refl, sym, ap, subst, inl, inr}
use Rattle.std.specs.Prelude.{All, option_map}
use Rattle.std.proofs.lemmas.List.Elements.{All-nil, All-push}
use Rattle.std.proofs.lemmas.Option.{none-some}
use Rattle.mls_nodes.specs.declared.leaf.LeafNode.{LeafNode}
use Rattle.mls_nodes.specs.declared.required_capabilities.RequiredCapabilities.{RequiredCapabilities}
use Rattle.mls_tree.specs.Tree.{leaf_at}
use Rattle.mls_check.specs.Signatures.{VerifyFn}
use Rattle.mls_msgs.specs.declared.authenticated.AuthenticatedParts.{AuthenticatedParts}
use Rattle.mls_msgs.specs.declared.framed_content.Content.{Content}
use Rattle.mls_msgs.specs.declared.framed_content.Content.TheVariants as contents
use Rattle.mls_msgs.specs.declared.framed_content.Sender.{Sender}
use Rattle.mls_msgs.specs.declared.framed_content.Sender.TheVariants as senders
use Rattle.mls_msgs.specs.declared.message.Message.{Message}
use Rattle.mls_msgs.specs.declared.message.Message.TheVariants as messages
use Rattle.mls_msgs.specs.declared.profile.Profile.{Profile}
use Rattle.mls_msgs.specs.declared.profile.Profile.TheVariants.{Members, Full}
use Rattle.mls_msgs.specs.declared.proposal.Proposal.{Proposal}
use Rattle.mls_signatures.specs.SigningKeys.{leaf_key, signing_key, outside_key, may_propose}
use Rattle.mls_apply.specs.PendingContent.{authenticated_of}
use Rattle.mls_apply.specs.declared.list_item.KnownProposal.{KnownProposal}
use Rattle.mls_apply.specs.declared.refusal.Refusal.{Refusal}
use Rattle.mls_apply.specs.ResolvedList.{resolved}
use Rattle.mls_apply.specs.RuleLists.{first_failing}
use Rattle.mls_apply.proofs.Merging.{came_from}
use Rattle.mls_apply.proofs.RuleLists.{AreKept, passed, refused}
use Rattle.mls_follow.specs.State.{State}
use Rattle.mls_follow.specs.GroupModelInternal.{IsFramedIn}
use Rattle.mls_follow.specs.ProposalSignatures.{IsKnownSigned, AreKnownSigned, FollowersKnowSigned}
use Rattle.mls_follow.specs.Resumption.{HoldEntries, IsStateOf, base_state}
use Rattle.mls_follow.specs.StoredRuns.{IsInitialState}
use Rattle.mls_follow.specs.MessageRules.{is_frame_signed, content_rules, leaf_rules, signed_proposal_rules, outside_content_rules, outside_rules, if_full, sender_rules, frame_rules, message_rules, reference_of}
use Rattle.mls_follow.specs.NextState.{Transition, after_proposal, after_content, after_outside, after_sender, next, pending_proposal}
use Rattle.mls_follow.specs.Acceptance.{IsAcceptable, IsNext}
use Rattle.mls_follow.specs.Runs.{IsTransition, Call, IsRun}
use Rattle.mls_follow.specs.declared.taken.Taken.{Taken}
use Rattle.mls_follow.specs.declared.taken.Taken.TheVariants as takens
use Rattle.mls_msgs.specs.Message.{message}
use Rattle.mls_state.specs.declared.state.FollowerState.{FollowerState}
use Rattle.mls_tree.specs.RatchetTree.{RatchetTree}
use Rattle.mls_follow.proofs.AcceptedProposals.{kept_framed}
use Rattle.mls_follow.proofs.Answering.{one_message}
use Rattle.mls_follow.proofs.EntryMessages.{content_again, proposal_format}
use Rattle.mls_follow.proofs.KnownReadable.{commit-forgets, join-forgets}
use Rattle.mls_follow.proofs.StrictLists.{plain_kept}

-- a state that knows none
knows_none : (G : VerifyFn) (s : State) → s.known ≡ [] → AreKnownSigned G s
knows_none G s none =
    subst (λ (known : List KnownProposal). All (IsKnownSigned G s.context s.tree) known) (sym none)
    (All-nil (IsKnownSigned G s.context s.tree))

module _ (G : VerifyFn) (s : State) (all : AreKnownSigned G s) (required : RequiredCapabilities) where
  proposal-signed : (a : AuthenticatedParts) (sender : Sender) (p : Proposal) (o : Option (List ℕ)) (step : Transition)
      → ((reference : List ℕ) → o ≡ Some reference → IsKnownSigned G s.context s.tree (pending_proposal a sender p reference))
      → option_map (after_proposal s a sender p) o ≡ Some step → AreKnownSigned G step.state
  proposal-signed a sender p o step one e =
      let w = came_from (after_proposal s a sender p) o step e in
      subst (λ (u : Transition). AreKnownSigned G u.state) w.2
      (All-push (IsKnownSigned G s.context s.tree) s.known (pending_proposal a sender p w.0) all (one w.0 w.1))

  module _ (a : AuthenticatedParts) (step : Transition) (framed : IsFramedIn s.context a)
      (untagged : (p : Proposal) → a.content.content ≡ contents.Proposal p → a.confirmation_tag ≡ None) where
    -- what is kept of a proposal is its AuthenticatedContent
    kept_content : (sender : Sender) (p : Proposal) (reference : List ℕ) → a.content.sender ≡ sender → a.content.content ≡ contents.Proposal p
        → authenticated_of s.context (pending_proposal a sender p reference) ≡ a
    kept_content sender p reference is content =
        subst (λ (i : Sender). authenticated_of s.context (pending_proposal a i p reference) ≡ a) is
        (content_again s.context a p reference framed.format framed.group framed.epoch content (untagged p content))

    -- it is signed under a key
    one-signed : (sender : Sender) (p : Proposal) (key reference : List ℕ) → a.content.sender ≡ sender → a.content.content ≡ contents.Proposal p
        → signing_key s.context s.tree sender (contents.Proposal p) ≡ Some key → may_propose sender p ≡ true
        → reference_of s.context a ≡ Some reference → is_frame_signed G s.context key a ≡ true
        → IsKnownSigned G s.context s.tree (pending_proposal a sender p reference)
    one-signed sender p key reference is content signer may reported signed =
        let again = kept_content sender p reference is content in
        record { key = key; signer = signer; allowed = may; reference = rw again reported; signed = rw again signed }

    content-signed : (i : ℕ) (x : LeafNode) (content : Content)
        → a.content.sender ≡ senders.Member i → leaf_at 0 s.tree i ≡ Some x → a.content.content ≡ content
        → AreKept (content_rules G s required a i x content) → after_content s a i content ≡ Some step → AreKnownSigned G step.state
    content-signed i x (contents.Application sent) sender set is kept e = absurd (refused kept)
    content-signed i x (contents.Proposal p) sender set is kept e =
        proposal-signed a (senders.Member i) p (reference_of s.context a) step
        (λ reference reported. one-signed (senders.Member i) p x.signature_key reference sender is (ap leaf_key set) refl reported (passed kept).0) e
    content-signed i x (contents.Commit c) sender set is kept e = knows_none G step.state
        (commit-forgets s a (senders.Member i) c (resolved (senders.Member i) s.known c.proposals) step e)

    leaf-signed : (i : ℕ) (o : Option LeafNode) → a.content.sender ≡ senders.Member i → leaf_at 0 s.tree i ≡ o
        → AreKept (leaf_rules G s required a i o) → after_content s a i a.content.content ≡ Some step → AreKnownSigned G step.state
    leaf-signed i None sender set kept e = absurd (refused kept)
    leaf-signed i (Some x) sender set kept e = content-signed i x a.content.content sender set refl kept e

    -- a proposal of a sender outside the group, under its key
    signed-signed : (sender : Sender) (p : Proposal) (o : Option (List ℕ)) → a.content.sender ≡ sender → a.content.content ≡ contents.Proposal p
        → may_propose sender p ≡ true → signing_key s.context s.tree sender (contents.Proposal p) ≡ o → AreKept (signed_proposal_rules G s a sender p o)
        → option_map (after_proposal s a sender p) (reference_of s.context a) ≡ Some step → AreKnownSigned G step.state
    signed-signed sender p None is content allowed has kept e = absurd (refused kept)
    signed-signed sender p (Some key) is content allowed has kept e =
        proposal-signed a sender p (reference_of s.context a) step
        (λ reference reported. one-signed sender p key reference is content has allowed reported (passed kept).0) e

    outside-content-signed : (sender : Sender) (o : Option (List ℕ)) (content : Content) → a.content.sender ≡ sender → a.content.content ≡ content
        → signing_key s.context s.tree sender content ≡ o → AreKept (outside_content_rules G s a sender o content)
        → after_outside s a sender content ≡ Some step → AreKnownSigned G step.state
    outside-content-signed sender o (contents.Application sent) is content has kept e = absurd (refused kept)
    outside-content-signed sender o (contents.Proposal p) is content has kept e =
        let k = passed kept in signed-signed sender p o is content k.0 has k.1 e
    outside-content-signed sender o (contents.Commit c) is content has kept e = absurd (refused kept)

    outside-signed : (profile : Profile) (sender : Sender) → a.content.sender ≡ sender
        → signing_key s.context s.tree sender a.content.content ≡ outside_key s.context sender a.content.content
        → AreKept (if_full profile (outside_rules G s a sender)) → after_outside s a sender a.content.content ≡ Some step → AreKnownSigned G step.state
    outside-signed Members sender is has kept e = absurd (refused kept)
    outside-signed Full sender is has kept e =
        outside-content-signed sender (outside_key s.context sender a.content.content) a.content.content is refl has (passed kept).1 e

    sender-signed : (sender : Sender) → a.content.sender ≡ sender → AreKept (sender_rules G s required a sender)
        → after_sender s a sender ≡ Some step → AreKnownSigned G step.state
    sender-signed (senders.Member i) is kept e = leaf-signed i (leaf_at 0 s.tree i) is refl kept e
    sender-signed (senders.External j) is kept e = outside-signed s.profile (senders.External j) is refl kept e
    sender-signed senders.NewMemberProposal is kept e = outside-signed s.profile senders.NewMemberProposal is refl kept e
    sender-signed senders.NewMemberCommit is kept e = knows_none G step.state (join-forgets s a a.content.content step e)

  step-signed : (m : Message) (bytes : List ℕ) (step : Transition) → message m ≡ Some bytes → first_failing (message_rules G s required m) ≡ None → next s m ≡ Some step
      → AreKnownSigned G step.state
  step-signed (messages.Public p) bytes step encoded kept e =
      let frame : AreKept (frame_rules G s required p.auth) = record { none = kept } in
      sender-signed p.auth step (kept_framed G s required p bytes encoded frame) (λ q content. (proposal_format p bytes q encoded content).1)
      p.auth.content.sender refl (passed (passed (passed frame).1).1).1 e
  step-signed (messages.Unread w b) bytes step encoded kept e = absurd (none-some step e)
  step-signed (messages.GroupInfo g) bytes step encoded kept e = absurd (none-some step e)
  step-signed (messages.KeyPackage k) bytes step encoded kept e = absurd (none-some step e)

module _ (G : VerifyFn) (s : State) (all : AreKnownSigned G s) (bytes : List ℕ) where
  accepted-signed : (step : Transition) → IsAcceptable G s bytes → IsNext s bytes step → AreKnownSigned G step.state
  accepted-signed step a n =
      step-signed G s all a.required a.message bytes step a.encoded.encoded (plain_kept G s a.required a.message a.rules_hold)
      (ap (next s) (one_message a.message n.message bytes a.encoded n.encoded) ∙ n.after)

  taken-signed : (answer : Result Taken Refusal) (new : State) → IsTransition G s bytes answer new → AreKnownSigned G new
  taken-signed (Ok taken) new h = accepted-signed (record { taken = taken; state = new }) h.0 h.1
  taken-signed (Err e) new h = subst (AreKnownSigned G) (sym h.0) all

run-signed : (G : VerifyFn) (s : State) (calls : List Call) (new : State) → AreKnownSigned G s → IsRun G s calls new → AreKnownSigned G new
run-signed G s [] new all h = subst (AreKnownSigned G) (sym h) all
run-signed G s (call ∷ calls) new all h = run-signed G h.0 calls new (taken-signed G s all call.bytes call.answer h.0 h.1) h.2

-- ---- first states

entries-signed : (G : VerifyFn) (s : State) (es : List AuthenticatedParts) (new : State) → AreKnownSigned G s → HoldEntries G s es new → AreKnownSigned G new
entries-signed G s [] new all h = subst (AreKnownSigned G) (sym h) all
entries-signed G s (a ∷ es) new all h =
    entries-signed G h.0 es new (taken-signed G s all h.1.accepts.bytes (Ok (takens.Proposal h.1.accepts.reference)) h.0 h.1.accepts.accepted) h.2

content-signed-state : (G : VerifyFn) (c : FollowerState) (t : RatchetTree) (s : State) → IsStateOf G c t s → AreKnownSigned G s
content-signed-state G c t s h =
    let plain = h.is_plain in
    let held : AreKnownSigned G plain.with_pending =
    entries-signed G (base_state c t) c.known plain.with_pending (knows_none G (base_state c t) refl) plain.held in
    let whole : AreKnownSigned G h.without_rules = subst (AreKnownSigned G) (sym plain.state) held in
    subst (AreKnownSigned G) (sym h.made_strict.state) whole

first-signed : (G : VerifyFn) (s : State) → IsInitialState G s → AreKnownSigned G s
first-signed G s (inl h) = knows_none G s (ap (λ (t : State). t.known) h.4.state)
first-signed G s (inr h) = content-signed-state G h.1.content h.1.tree s h.1.state

pub followers_signed : FollowersKnowSigned
followers_signed G first last calls h run = run-signed G first calls last (first-signed G first h) run
