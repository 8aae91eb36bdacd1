-- When an entry of a file can be the next pending proposal: if a follower accepts its message, whose answer is then a proposal.
use Rattle.std.proofs.Common.{◌≡◌, ◌≢◌, ◌∙◌, ℕ, List, Bool, true, false, Some, None, Result, Ok, Err, sym, ap, subst}
use Rattle.std.specs.Bool.{OnFalse}
use Rattle.std.specs.Prelude.{IfOk, option_map}
use Rattle.std.specs.declared.alloc.AllocError.{AllocError}
use Rattle.std.proofs.lemmas.Option.{none-some, same_Some}
use Rattle.mls_msgs.specs.Message.{message}
use Rattle.mls_msgs.specs.declared.authenticated.AuthenticatedParts.{AuthenticatedParts}
use Rattle.mls_msgs.specs.declared.framed_content.Content.TheVariants as contents
use Rattle.mls_msgs.specs.declared.framed_content.Sender.{Sender}
use Rattle.mls_msgs.specs.declared.framed_content.Sender.TheVariants as senders
use Rattle.mls_msgs.specs.declared.message.Message.{Message}
use Rattle.mls_msgs.specs.declared.message.Message.TheVariants as messages
use Rattle.mls_msgs.specs.declared.proposal.Proposal.{Proposal}
use Rattle.mls_check.specs.Signatures.{VerifyFn}
use Rattle.mls_apply.specs.declared.refusal.Refusal.{Refusal}
use Rattle.mls_apply.specs.declared.refusal.Refusal.TheVariants.{OutOfMemory}
use Rattle.mls_apply.proofs.Merging.{came_from}
use Rattle.mls_follow.specs.State.{State, EncodesMessage}
use Rattle.mls_follow.specs.Acceptance.{IsAcceptable}
use Rattle.mls_follow.specs.MessageRules.{reference_of}
use Rattle.mls_follow.specs.NextState.{Transition, after_content, after_join, after_outside, after_proposal, after_sender, next}
use Rattle.mls_follow.specs.Resumption.{AcceptsMessage, Holds, entry_message}
use Rattle.mls_follow.specs.ResumptionParts.{HasProposal}
use Rattle.mls_follow.specs.Runs.{IsTransition}
use Rattle.mls_follow.specs.declared.taken.Taken.{Taken}
use Rattle.mls_follow.specs.declared.taken.Taken.TheVariants as takens
use Rattle.mls_follow.proofs.AcceptedProposals.{accepted_proposal}
use Rattle.mls_follow.proofs.Answering.{never_both, one_message}

-- ---- the answer to a proposal

referenced_step : (s : State) (a : AuthenticatedParts) (sender : Sender) (p : Proposal) (step : Transition)
    → option_map (after_proposal s a sender p) (reference_of s.context a) ≡ Some step → (r : List ℕ) × (step.taken ≡ takens.Proposal r)
referenced_step s a sender p step e =
    let w = came_from (after_proposal s a sender p) (reference_of s.context a) step e in
    (w.0, ap (λ (u : Transition). u.taken) (sym w.2))

proposal_step : (s : State) (a : AuthenticatedParts) (p : Proposal) → a.content.content ≡ contents.Proposal p → (sender : Sender) (step : Transition)
    → after_sender s a sender ≡ Some step → (r : List ℕ) × (step.taken ≡ takens.Proposal r)
proposal_step s a p content (senders.Member i) step e =
    referenced_step s a (senders.Member i) p step (sym (ap (after_content s a i) content) ∙ e)
proposal_step s a p content (senders.External k) step e =
    referenced_step s a (senders.External k) p step (sym (ap (after_outside s a (senders.External k)) content) ∙ e)
proposal_step s a p content senders.NewMemberProposal step e =
    referenced_step s a senders.NewMemberProposal p step (sym (ap (after_outside s a senders.NewMemberProposal) content) ∙ e)
proposal_step s a p content senders.NewMemberCommit step e =
    absurd (none-some step (sym (ap (after_join s a) content) ∙ e))

message_step : (s : State) (m : Message) → HasProposal m → (step : Transition) → next s m ≡ Some step → (r : List ℕ) × (step.taken ≡ takens.Proposal r)
message_step s (messages.Public p) has step e = proposal_step s p.auth has.0 has.1 p.auth.content.sender step e
message_step s (messages.Unread w b) has step e = absurd has
message_step s (messages.GroupInfo g) has step e = absurd has
message_step s (messages.KeyPackage k) has step e = absurd has

-- ---- accepted or not

pub accepted_message : (G : VerifyFn) (s : State) (m : Message) (bytes : List ℕ) (taken : Taken) (new : State) → EncodesMessage s.profile m bytes → HasProposal m
    → IsTransition G s bytes (Ok taken) new → AcceptsMessage G s m new
accepted_message G s m bytes taken new encoded has h =
    let after = ap (next s) (one_message m h.1.message bytes encoded h.1.encoded) ∙ h.1.after in
    let r = message_step s m has (record { taken = taken; state = new }) after in
    record {
      bytes = bytes;
      encoded = encoded;
      reference = r.0;
      accepted = subst (λ (t : Taken). IsTransition G s bytes (Ok t) new) r.1 h;
    }

pub refused_message : (G : VerifyFn) (s : State) (m : Message) (bytes : List ℕ) (e : Refusal) (left : State) → EncodesMessage s.profile m bytes
    → IsTransition G s bytes (Err e) left → e ≢ OutOfMemory → (new : State) → AcceptsMessage G s m new → ⊥
refused_message G s m bytes e left encoded h other new a =
    let same : a.bytes ≡ bytes = same_Some a.bytes bytes (sym a.encoded.encoded ∙ encoded.encoded) in
    never_both G s bytes e (subst (IsAcceptable G s) same a.accepted.0) (h.1 other)

pub unencoded_message : (G : VerifyFn) (s : State) (m : Message) → message m ≡ None → (new : State) → AcceptsMessage G s m new → ⊥
unencoded_message G s m none new a = none-some a.bytes (sym none ∙ a.encoded.encoded)

pub unfit_message : (G : VerifyFn) (s : State) (m : Message) (bytes : List ℕ) → message m ≡ Some bytes → (EncodesMessage s.profile m bytes → ⊥)
    → (new : State) → AcceptsMessage G s m new → ⊥
unfit_message G s m bytes encoded unfit new a =
    unfit (subst (EncodesMessage s.profile m) (same_Some a.bytes bytes (sym a.encoded.encoded ∙ encoded)) a.encoded)

-- ---- an entry

pub other_format : (G : VerifyFn) (s : State) (a : AuthenticatedParts) → a.wire_format ≢ 1 → (new : State) → Holds G s a new → ⊥
other_format G s a other new h = other h.format

pub held : (G : VerifyFn) (s : State) (a : AuthenticatedParts) (m : Message) (new : State) → m ≡ entry_message a → a.wire_format ≡ 1 → AcceptsMessage G s m new → Holds G s a new
held G s a m new same format h = record {
  format = format;
  accepts = subst (λ (n : Message). AcceptsMessage G s n new) same h;
}

pub not_held : (G : VerifyFn) (s : State) (a : AuthenticatedParts) (m : Message) → m ≡ entry_message a → ((new : State) → AcceptsMessage G s m new → ⊥)
    → (new : State) → Holds G s a new → ⊥
not_held G s a m same none new h = none new (subst (λ (n : Message). AcceptsMessage G s n new) (sym same) h.accepts)

-- the AuthenticatedContent of a PublicMessage
content_of : AuthenticatedParts → Message → AuthenticatedParts
content_of other (messages.Public p) = p.auth
content_of other (messages.Unread wire_format body) = other
content_of other (messages.GroupInfo info) = other
content_of other (messages.KeyPackage k) = other

-- the content of an entry that can be pending is a proposal
pub other_content : (G : VerifyFn) (s : State) (a : AuthenticatedParts) → ((p : Proposal) → a.content.content ≡ contents.Proposal p → ⊥)
    → (new : State) → Holds G s a new → ⊥
unfolding content_of
other_content G s a none new h =
    let one = accepted_proposal G s h.accepts.bytes h.accepts.reference new h.accepts.accepted in
    let auth : one.message_is.auth ≡ a = ap (content_of a) (one_message (messages.Public one.message_is) (entry_message a) h.accepts.bytes one.encoded h.accepts.encoded) in
    none one.pending.proposal (ap (λ (b : AuthenticatedParts). b.content.content) (sym auth ∙ sym one.content_is))

pub not_held_either : (G : VerifyFn) (s : State) (a : AuthenticatedParts) (m : Message) → m ≡ entry_message a → (r : Result Bool AllocError)
    → IfOk r (λ h. OnFalse h ((new : State) → AcceptsMessage G s m new → ⊥)) → IfOk r (λ h. OnFalse h ((new : State) → Holds G s a new → ⊥))
not_held_either G s a m same (Ok true) h = h
not_held_either G s a m same (Ok false) h = not_held G s a m same h
not_held_either G s a m same (Err e) h = h
