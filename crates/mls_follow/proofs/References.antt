-- The references of pending proposals are those of what is kept of them.
use Rattle.std.proofs.Common.{◌≡◌, ◌∙◌, ℕ, List, [], ◌∷◌, ◌++◌, Some, None, sym, ap, subst}
use Rattle.std.specs.Prelude.{OnOk, OnErr, Result, Ok, Err}
use Rattle.std.specs.declared.alloc.AllocError.{AllocError}
use Rattle.std.proofs.lemmas.List.{map_push}
use Rattle.mls_nodes.specs.declared.context.GroupContext.{GroupContext}
use Rattle.mls_msgs.specs.declared.authenticated.AuthenticatedParts.{AuthenticatedParts}
use Rattle.mls_msgs.specs.declared.framed_content.Sender.{Sender}
use Rattle.mls_msgs.specs.declared.proposal.Proposal.{Proposal}
use Rattle.mls_apply.specs.PendingContent.{authenticated_of}
use Rattle.mls_apply.specs.declared.list_item.KnownProposal.{KnownProposal}
use Rattle.mls_follow.specs.GroupModelInternal.{IsSentIn}
use Rattle.mls_follow.specs.MessageRules.{reference_of}
use Rattle.mls_follow.specs.NextState.{pending_proposal}
use Rattle.mls_follow.specs.StoredState.{AreReferenced}
use Rattle.mls_follow.proofs.EntryMessages.{content_again}

-- what is kept of a proposal that was sent is its AuthenticatedContent
pub sent_content : (context : GroupContext) (a : AuthenticatedParts) (sender : Sender) (p : Proposal) (reference : List ℕ) → IsSentIn context a sender p
    → a.confirmation_tag ≡ None → authenticated_of context (pending_proposal a sender p reference) ≡ a
sent_content context a sender p reference h e =
    subst (λ (i : Sender). authenticated_of context (pending_proposal a i p reference) ≡ a) h.sender_is
    (content_again context a p reference h.framed.format h.framed.group h.framed.epoch h.content e)

-- one more is pending
pub referenced_more : (context : GroupContext) (ks : List KnownProposal) (k : KnownProposal) → AreReferenced context ks
    → reference_of context (authenticated_of context k) ≡ Some k.reference → AreReferenced context (ks ++ k ∷ [])
referenced_more context ks k all one =
    map_push (λ j. reference_of context (authenticated_of context j)) ks k
    ∙ (λ i. all i ++ one i ∷ [])
    ∙ sym (map_push (λ (j : KnownProposal). Some j.reference) ks k)

-- one more is pending, or none, if memory is short
pub referenced_pushed : (context : GroupContext) (r : Result (Unit {0}) AllocError) (ks new : List KnownProposal) (k : KnownProposal)
    → OnOk r (new ≡ ks ++ k ∷ []) → OnErr r (new ≡ ks) → AreReferenced context ks
    → reference_of context (authenticated_of context k) ≡ Some k.reference → AreReferenced context new
referenced_pushed context (Ok u) ks new k grown kept all one = subst (AreReferenced context) (sym grown) (referenced_more context ks k all one)
referenced_pushed context (Err e) ks new k grown kept all one = subst (AreReferenced context) (sym kept) all

-- the reference of a proposal that was sent is that of what is kept of it
pub sent_reference : (context : GroupContext) (a : AuthenticatedParts) (sender : Sender) (p : Proposal) (reference : List ℕ) (k : KnownProposal)
    → IsSentIn context a sender p → a.confirmation_tag ≡ None → reference_of context a ≡ Some reference
    → k ≡ pending_proposal a sender p reference → reference_of context (authenticated_of context k) ≡ Some k.reference
sent_reference context a sender p reference k h e has is =
    subst (λ (j : KnownProposal). reference_of context (authenticated_of context j) ≡ Some j.reference) (sym is)
    (ap (reference_of context) (sent_content context a sender p reference h e) ∙ has)
