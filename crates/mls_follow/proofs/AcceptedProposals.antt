-- What an accepted proposal leads to, and that it is acceptable again as an entry of a file.
use Rattle.std.proofs.Common.{◌≡◌, ◌≢◌, ◌∙◌, ℕ, ◌+◌, List, [], ◌∷◌, ◌++◌, Option, Some, None, Ok, refl, sym, ap, subst}
use Rattle.std.specs.Prelude.{option_and_then, option_map}
use Rattle.std.proofs.lemmas.Bool.{eqb-true}
use Rattle.std.proofs.lemmas.Option.{none-some, option_and_then_some}
use Rattle.std.proofs.lemmas.Slice.Eq.{bytes_eq-Decides}
use Rattle.mls_nodes.specs.declared.required_capabilities.RequiredCapabilities.{RequiredCapabilities}
use Rattle.mls_nodes.specs.declared.leaf.LeafNode.{LeafNode}
use Rattle.mls_tree.specs.Tree.{Tree, leaf_at}
use Rattle.mls_tree.specs.TreeHash.{tree_hash}
use Rattle.mls_hash.specs.SuiteHash.{hash_of}
use Rattle.mls_check.specs.Signatures.{VerifyFn}
use Rattle.mls_msgs.specs.Message.{message}
use Rattle.mls_msgs.specs.declared.authenticated.AuthenticatedParts.{AuthenticatedParts}
use Rattle.mls_msgs.specs.declared.commit.Commit.{Commit}
use Rattle.mls_msgs.specs.declared.framed_content.Content.{Content}
use Rattle.mls_msgs.specs.declared.framed_content.Content.TheVariants as contents
use Rattle.mls_msgs.specs.declared.framed_content.Sender.{Sender}
use Rattle.mls_msgs.specs.declared.framed_content.Sender.TheVariants as senders
use Rattle.mls_msgs.specs.declared.message.Message.{Message}
use Rattle.mls_msgs.specs.declared.message.Message.TheVariants as messages
use Rattle.mls_msgs.specs.declared.profile.Profile.{Profile}
use Rattle.mls_msgs.specs.declared.profile.Profile.TheVariants.{Members, Full}
use Rattle.mls_msgs.specs.declared.proposal.Proposal.{Proposal}
use Rattle.mls_msgs.specs.declared.public_message.PublicParts.{PublicParts}
use Rattle.mls_apply.specs.JoinRules.{join_items}
use Rattle.mls_apply.specs.PendingContent.{authenticated_of}
use Rattle.mls_apply.specs.ProposalRules.{proposal_rules}
use Rattle.mls_apply.specs.ResolvedList.{resolved}
use Rattle.mls_apply.specs.RuleLists.{first_failing}
use Rattle.mls_apply.specs.Transcript.{confirmed_hash, interim_hash}
use Rattle.mls_apply.specs.declared.list_item.KnownProposal.{KnownProposal}
use Rattle.mls_apply.specs.declared.list_item.ListItem.{ListItem}
use Rattle.mls_apply.proofs.Merging.{came_from}
use Rattle.mls_apply.proofs.RuleLists.{AreKept, passed, refused}
use Rattle.mls_signatures.specs.SigningKeys.{outside_key}
use Rattle.mls_follow.specs.State.{State, EncodesMessage}
use Rattle.mls_follow.specs.Acceptance.{IsAcceptable, IsNext}
use Rattle.mls_follow.specs.GroupModelInternal.{IsFramedIn}
use Rattle.mls_follow.specs.MessageRules.{content_rules, frame_rules, if_full, leaf_rules, message_rules, outside_content_rules, outside_rules, proposal_message_rules, reference_of, sender_rules, signed_proposal_rules}
use Rattle.mls_follow.specs.NextState.{Transition, after_commit, after_content, after_join, after_outside, after_proposal, after_sender, after_tree, commit_tree, committed, next, pending_proposal, with_list}
use Rattle.mls_follow.specs.Resumption.{Holds, entry_message}
use Rattle.mls_follow.specs.Runs.{IsTransition}
use Rattle.mls_follow.specs.StoredRuns.{bare_state}
use Rattle.mls_follow.specs.StrictRules.{all_rules}
use Rattle.mls_follow.specs.declared.taken.Taken.{Taken}
use Rattle.mls_follow.specs.declared.taken.Taken.TheVariants as takens
use Rattle.mls_follow.proofs.Answering.{one_message}
use Rattle.mls_follow.proofs.EntryMessages.{content_again, entry_encoded, proposal_format, public_format}
use Rattle.mls_follow.proofs.FewerRules.{messages_alike, strict_plain}
use Rattle.mls_follow.proofs.StrictLists.{plain_kept}

-- ---- a frame that keeps the rules is for the group and the epoch

pub kept_framed : (G : VerifyFn) (s : State) (required : RequiredCapabilities) (m : PublicParts) (bytes : List ℕ) → message (messages.Public m) ≡ Some bytes
    → AreKept (frame_rules G s required m.auth) → IsFramedIn s.context m.auth
kept_framed G s required m bytes e kept =
    let group = passed kept in
    let epoch = passed group.1 in
    record {
      format = public_format m bytes e;
      group = (bytes_eq-Decides m.auth.content.group_id s.context.group_id).0 group.0;
      epoch = eqb-true m.auth.content.epoch s.context.epoch epoch.0;
    }

-- ---- after a commit

tree_taken : (s : State) (a : AuthenticatedParts) (t : Tree) (step : Transition) → after_tree s a t ≡ Some step → (epoch : ℕ) × (step.taken ≡ takens.Commit epoch)
tree_taken s a t step e =
    option_and_then_some (λ hash.
    option_and_then (λ confirmed. option_map (committed s t hash confirmed) (interim_hash (hash_of s.context.cipher_suite) confirmed a.confirmation_tag))
    (confirmed_hash (hash_of s.context.cipher_suite) s.interim a))
    (tree_hash (hash_of s.context.cipher_suite) 0 t) step e
    (λ hash f g.
    option_and_then_some (λ confirmed. option_map (committed s t hash confirmed) (interim_hash (hash_of s.context.cipher_suite) confirmed a.confirmation_tag))
    (confirmed_hash (hash_of s.context.cipher_suite) s.interim a) step g
    (λ confirmed k l.
    (let w = came_from (committed s t hash confirmed) (interim_hash (hash_of s.context.cipher_suite) confirmed a.confirmation_tag) step l in
    (s.context.epoch + 1, ap (λ (u : Transition). u.taken) (sym w.2)))))

commit_taken : (s : State) (a : AuthenticatedParts) (committer : Sender) (c : Commit) (items : Option (List ListItem)) (step : Transition)
    → after_commit s a committer c items ≡ Some step → (epoch : ℕ) × (step.taken ≡ takens.Commit epoch)
commit_taken s a committer c items step e =
    option_and_then_some (after_tree (with_list s items) a) (commit_tree s committer c items) step e (λ t f g. tree_taken (with_list s items) a t step g)

commit_is_no_proposal : (taken : Taken) (reference : List ℕ) → (epoch : ℕ) × (taken ≡ takens.Commit epoch) → taken ≡ takens.Proposal reference → ⊥
commit_is_no_proposal taken reference c p = let bad = sym c.1 ∙ p in absurd (cc)

-- ---- after a proposal

-- the message is one of a proposal, which is pending then
pub record IsPendingAfter (G : VerifyFn) (s : State) (a : AuthenticatedParts) (step : Transition) : Type 0 where
  pub proposal : Proposal
  pub content : a.content.content ≡ contents.Proposal proposal
  pub other : a.content.sender ≢ senders.NewMemberCommit
  pub reference : List ℕ
  pub referenced : reference_of s.context a ≡ Some reference
  pub step_is : after_proposal s a a.content.sender proposal reference ≡ step
  pub kept : AreKept (proposal_rules G s.context s.tree a.content.sender proposal)

module _ (G : VerifyFn) (s : State) (required : RequiredCapabilities) (a : AuthenticatedParts) (step : Transition) (r : List ℕ)
    (taken : step.taken ≡ takens.Proposal r) where
  pending_one : (sender : Sender) (p : Proposal) → a.content.sender ≡ sender → a.content.content ≡ contents.Proposal p → sender ≢ senders.NewMemberCommit
      → AreKept (proposal_message_rules G s a sender p) → option_map (after_proposal s a sender p) (reference_of s.context a) ≡ Some step → IsPendingAfter G s a step
  pending_one sender p is content other kept e =
      let w = came_from (after_proposal s a sender p) (reference_of s.context a) step e in
      record {
        proposal = p;
        content = content;
        other = λ same. other (sym is ∙ same);
        reference = w.0;
        referenced = w.1;
        step_is = ap (λ (i : Sender). after_proposal s a i p w.0) is ∙ w.2;
        kept = subst (λ (i : Sender). AreKept (proposal_rules G s.context s.tree i p)) (sym is) (passed kept).1;
      }

  pending_content : (i : ℕ) (x : LeafNode) (content : Content) → a.content.sender ≡ senders.Member i → a.content.content ≡ content
      → AreKept (content_rules G s required a i x content) → after_content s a i content ≡ Some step → IsPendingAfter G s a step
  pending_content i x (contents.Application sent) is content kept e = absurd (none-some step e)
  pending_content i x (contents.Proposal p) is content kept e = pending_one (senders.Member i) p is content (λ same. cc) (passed kept).1 e
  pending_content i x (contents.Commit c) is content kept e =
      absurd (commit_is_no_proposal step.taken r (commit_taken s a (senders.Member i) c (resolved (senders.Member i) s.known c.proposals) step e) taken)

  pending_leaf : (i : ℕ) (o : Option LeafNode) → a.content.sender ≡ senders.Member i → AreKept (leaf_rules G s required a i o)
      → after_content s a i a.content.content ≡ Some step → IsPendingAfter G s a step
  pending_leaf i None is kept e = absurd (refused kept)
  pending_leaf i (Some x) is kept e = pending_content i x a.content.content is refl kept e

  pending_signed : (sender : Sender) (p : Proposal) (key : Option (List ℕ)) → a.content.sender ≡ sender → a.content.content ≡ contents.Proposal p → sender ≢ senders.NewMemberCommit
      → AreKept (signed_proposal_rules G s a sender p key) → option_map (after_proposal s a sender p) (reference_of s.context a) ≡ Some step → IsPendingAfter G s a step
  pending_signed sender p None is content other kept e = absurd (refused kept)
  pending_signed sender p (Some key) is content other kept e = pending_one sender p is content other (passed kept).1 e

  pending_outside : (sender : Sender) (key : Option (List ℕ)) (content : Content) → a.content.sender ≡ sender → a.content.content ≡ content → sender ≢ senders.NewMemberCommit
      → AreKept (outside_content_rules G s a sender key content) → after_outside s a sender content ≡ Some step → IsPendingAfter G s a step
  pending_outside sender key (contents.Application sent) is content other kept e = absurd (none-some step e)
  pending_outside sender key (contents.Proposal p) is content other kept e = pending_signed sender p key is content other (passed kept).1 e
  pending_outside sender key (contents.Commit c) is content other kept e = absurd (none-some step e)

  pending_full : (profile : Profile) (sender : Sender) → a.content.sender ≡ sender → sender ≢ senders.NewMemberCommit
      → AreKept (if_full profile (outside_rules G s a sender)) → after_outside s a sender a.content.content ≡ Some step → IsPendingAfter G s a step
  pending_full Members sender is other kept e = absurd (refused kept)
  pending_full Full sender is other kept e =
      pending_outside sender (outside_key s.context sender a.content.content) a.content.content is refl other (passed kept).1 e

  pending_join : (content : Content) → after_join s a content ≡ Some step → IsPendingAfter G s a step
  pending_join (contents.Application sent) e = absurd (none-some step e)
  pending_join (contents.Proposal p) e = absurd (none-some step e)
  pending_join (contents.Commit c) e =
      absurd (commit_is_no_proposal step.taken r (commit_taken s a senders.NewMemberCommit c (Some (join_items c.proposals)) step e) taken)

  pending_sender : (sender : Sender) → a.content.sender ≡ sender → AreKept (sender_rules G s required a sender) → after_sender s a sender ≡ Some step → IsPendingAfter G s a step
  pending_sender (senders.Member i) is kept e = pending_leaf i (leaf_at 0 s.tree i) is kept e
  pending_sender (senders.External k) is kept e = pending_full s.profile (senders.External k) is (λ same. cc) kept e
  pending_sender senders.NewMemberProposal is kept e = pending_full s.profile senders.NewMemberProposal is (λ same. cc) kept e
  pending_sender senders.NewMemberCommit is kept e = pending_join a.content.content e

pending_message : (G : VerifyFn) (s : State) (required : RequiredCapabilities) (m : Message) (step : Transition) (r : List ℕ) → step.taken ≡ takens.Proposal r
    → first_failing (message_rules G s required m) ≡ None → next s m ≡ Some step → (p : PublicParts) × (m ≡ messages.Public p) × IsPendingAfter G s p.auth step
pending_message G s required (messages.Public p) step r taken none e =
    let frame : AreKept (frame_rules G s required p.auth) = record { none = none } in
    (p, refl, pending_sender G s required p.auth step r taken p.auth.content.sender refl (passed (passed (passed frame).1).1).1 e)
pending_message G s required (messages.Unread w b) step r taken none e = absurd (none-some step e)
pending_message G s required (messages.GroupInfo g) step r taken none e = absurd (none-some step e)
pending_message G s required (messages.KeyPackage k) step r taken none e = absurd (none-some step e)

-- ---- the same of a state that differs in what no rule asks

-- the next state of a proposal
proposal_next : (t : State) (a : AuthenticatedParts) (p : Proposal) (reference : List ℕ) → a.content.content ≡ contents.Proposal p → reference_of t.context a ≡ Some reference
    → (sender : Sender) → sender ≢ senders.NewMemberCommit → after_sender t a sender ≡ Some (after_proposal t a sender p reference)
proposal_next t a p reference content referenced (senders.Member i) other =
    ap (after_content t a i) content ∙ ap (option_map (after_proposal t a (senders.Member i) p)) referenced
proposal_next t a p reference content referenced (senders.External k) other =
    ap (after_outside t a (senders.External k)) content ∙ ap (option_map (after_proposal t a (senders.External k) p)) referenced
proposal_next t a p reference content referenced senders.NewMemberProposal other =
    ap (after_outside t a senders.NewMemberProposal) content ∙ ap (option_map (after_proposal t a senders.NewMemberProposal p)) referenced
proposal_next t a p reference content referenced senders.NewMemberCommit other = absurd (other refl)

-- the rules without the strict ones
bare_rules : (G : VerifyFn) (s : State) (required : RequiredCapabilities) (m : Message)
    → first_failing (all_rules G (bare_state s) required m) ≡ first_failing (message_rules G s required m)
bare_rules G s required m =
    strict_plain G (record s { added = None }) required m ∙ ap first_failing (messages_alike G s s.rules None required m)

-- ---- an accepted proposal

-- `IsAccepted G s bytes new`: the message is a PublicMessage of a proposal, `pending` is what is kept of it, it satisfies its
-- rules, and it is acceptable as an entry
pub record IsAccepted (G : VerifyFn) (s : State) (bytes : List ℕ) (new : State) : Type 0 where
  pub message_is : PublicParts
  pub encoded : EncodesMessage s.profile (messages.Public message_is) bytes
  pub pending : KnownProposal
  pub content_is : authenticated_of s.context pending ≡ message_is.auth
  pub referenced : reference_of s.context (authenticated_of s.context pending) ≡ Some pending.reference
  pub new_is : new ≡ record s { known = s.known ++ pending ∷ [] }
  pub kept : AreKept (proposal_rules G s.context s.tree pending.sender pending.proposal)
  pub again : Holds G (bare_state s) (authenticated_of s.context pending) (record (bare_state s) { known = s.known ++ pending ∷ [] })

module _ (G : VerifyFn) (s : State) (bytes r : List ℕ) (new : State) (h : IsTransition G s bytes (Ok (takens.Proposal r)) new) where
  abbrev step : Transition
  step = record { taken = takens.Proposal r; state = new }

  module _ (p : PublicParts) (a : IsAcceptable G s bytes) (same : a.message ≡ messages.Public p) (after : IsPendingAfter G s p.auth step) where
    abbrev pending : KnownProposal
    pending = pending_proposal p.auth p.auth.content.sender after.proposal after.reference

    encoded : EncodesMessage s.profile (messages.Public p) bytes
    encoded = subst (λ (m : Message). EncodesMessage s.profile m bytes) same a.encoded

    kept : first_failing (message_rules G s a.required (messages.Public p)) ≡ None
    kept = ap (λ (m : Message). first_failing (message_rules G s a.required m)) (sym same) ∙ plain_kept G s a.required a.message a.rules_hold

    content_is : authenticated_of s.context pending ≡ p.auth
    content_is =
        let frame : AreKept (frame_rules G s a.required p.auth) = record { none = kept } in
        let framed = kept_framed G s a.required p bytes encoded.encoded frame in
        content_again s.context p.auth after.proposal after.reference framed.format framed.group framed.epoch after.content
        (proposal_format p bytes after.proposal encoded.encoded after.content).1

    holds : Holds G (bare_state s) p.auth (record (bare_state s) { known = s.known ++ pending ∷ [] })
    holds =
        let front = entry_encoded s.profile p bytes encoded in
        record {
          format = public_format p bytes encoded.encoded;
          accepts = record {
            bytes = front.0;
            encoded = front.1;
            reference = after.reference;
            accepted = (
              record {
                message = entry_message p.auth;
                encoded = front.1;
                required = a.required;
                requires = a.requires;
                rules_hold = bare_rules G s a.required (entry_message p.auth) ∙ kept;
              },
              record {
                message = entry_message p.auth;
                encoded = front.1;
                after = proposal_next (bare_state s) p.auth after.proposal after.reference after.content after.referenced p.auth.content.sender after.other;
              },
            );
          };
        }

    is_accepted : IsAccepted G s bytes new
    is_accepted = record {
      message_is = p;
      encoded = encoded;
      pending = pending;
      content_is = content_is;
      referenced = ap (reference_of s.context) content_is ∙ after.referenced;
      new_is = ap (λ (u : Transition). u.state) (sym after.step_is);
      kept = after.kept;
      again = subst (λ (b : AuthenticatedParts). Holds G (bare_state s) b (record (bare_state s) { known = s.known ++ pending ∷ [] })) (sym content_is) holds;
    }

  pub accepted_proposal : IsAccepted G s bytes new
  accepted_proposal =
      let a : IsAcceptable G s bytes = h.0 in
      let n : IsNext s bytes step = h.1 in
      let w = pending_message G s a.required a.message step r refl (plain_kept G s a.required a.message a.rules_hold) (ap (next s) (one_message a.message n.message bytes a.encoded n.encoded) ∙ n.after) in
      is_accepted w.0 a w.1 w.2
