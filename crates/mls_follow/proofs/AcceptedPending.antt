-- A follower's checker accepts the signatures of its pending proposals.
use Rattle.std.proofs.Common.{◌≡◌, ◌∙◌, ℕ, List, [], ◌∷◌, ◌++◌, Bool, true, false, Option, Some, None, Result, Ok, Err, refl, sym, ap, subst}
use Rattle.std.specs.Prelude.{◌==◌, ◌&&◌, not, OnErr, OnOk, codes, option_map}
use Rattle.std.specs.Str.{bytes_eq}
use Rattle.std.proofs.lemmas.Bool.{and_from}
use Rattle.std.proofs.lemmas.List.Folds.{list_all-append}
use Rattle.std.proofs.lemmas.Option.{none-some}
use Rattle.mls_nodes.specs.LeafNodeTBS.{leaf_tbs}
use Rattle.mls_nodes.specs.declared.context.GroupContext.{GroupContext}
use Rattle.mls_nodes.specs.declared.leaf.LeafNode.{LeafNode}
use Rattle.mls_tree.specs.RatchetTree.{RatchetTree}
use Rattle.mls_tree.specs.Tree.{Tree, leaf_at}
use Rattle.mls_check.specs.LeafValidation.{is_leaf_signed}
use Rattle.mls_check.specs.Signatures.{Extends, VerifyFn, is_good, is_signed_text, sign_content}
use Rattle.mls_check.proofs.Elements.{and-left, and-right}
use Rattle.mls_msgs.specs.Tbs.{package_label, package_tbs}
use Rattle.mls_msgs.specs.declared.authenticated.AuthenticatedParts.{AuthenticatedParts}
use Rattle.mls_msgs.specs.declared.framed_content.Content.{Content}
use Rattle.mls_msgs.specs.declared.framed_content.Content.TheVariants as contents
use Rattle.mls_msgs.specs.declared.framed_content.Sender.{Sender}
use Rattle.mls_msgs.specs.declared.framed_content.Sender.TheVariants as senders
use Rattle.mls_msgs.specs.declared.group_info.GroupInfo.{GroupInfo}
use Rattle.mls_msgs.specs.declared.key_package.KeyPackage.{KeyPackage}
use Rattle.mls_msgs.specs.declared.message.Message.{Message}
use Rattle.mls_msgs.specs.declared.message.Message.TheVariants as messages
use Rattle.mls_msgs.specs.declared.profile.Profile.{Profile}
use Rattle.mls_msgs.specs.declared.proposal.Proposal.{Proposal}
use Rattle.mls_msgs.specs.declared.proposal.Proposal.TheVariants as proposals
use Rattle.mls_msgs.specs.declared.rules.Rules.{Rules}
use Rattle.mls_state.specs.declared.state.FollowerState.{FollowerState}
use Rattle.mls_apply.specs.ProposalRules.{fits_group, fits_leaf, is_from_key_package, is_package_signed, is_valid_add, is_valid_update, is_valid_update_by, proposal_rules, valid_if_add, valid_if_update}
use Rattle.mls_apply.specs.ResolvedList.{resolved}
use Rattle.mls_apply.specs.Senders.{member_index}
use Rattle.mls_apply.specs.declared.list_item.KnownProposal.{KnownProposal}
use Rattle.mls_apply.specs.declared.refusal.Refusal.{Refusal}
use Rattle.mls_apply.proofs.Merging.{came_from}
use Rattle.mls_apply.proofs.RuleLists.{AreKept, passed}
use Rattle.mls_signatures.specs.AcceptedSignatures.{are_accepted, are_from_packages, are_pending_accepted, is_accepted, is_from_package}
use Rattle.mls_signatures.specs.SignaturesToVerify.{labeled_signatures, leaf_signatures, package_signatures, proposal_signatures, sign_content_signatures, update_signatures}
use Rattle.mls_signatures.specs.declared.signature_to_verify.SignatureToVerify.{SignatureToVerify}
use Rattle.mls_follow.specs.Acceptance.{IsNext}
use Rattle.mls_follow.specs.AddedRules.{HasAddedRules}
use Rattle.mls_follow.specs.FollowerInvariant.{HasAcceptedPending}
use Rattle.mls_follow.specs.GroupModel.{group_state}
use Rattle.mls_follow.specs.NextState.{Transition, after_content, after_outside, after_proposal, after_sender, next}
use Rattle.mls_follow.specs.MessageRules.{reference_of}
use Rattle.mls_follow.specs.Resumption.{HoldEntries, IsResumed, IsStateOf, base_state}
use Rattle.mls_follow.specs.Runs.{IsTransition}
use Rattle.mls_follow.specs.Start.{IsStart}
use Rattle.mls_follow.specs.State.{State}
use Rattle.mls_follow.specs.TimedAcceptance.{IsTransitionAt}
use Rattle.mls_follow.specs.declared.group.Group.{Group}
use Rattle.mls_follow.specs.declared.taken.Taken.{Taken}
use Rattle.mls_follow.specs.declared.taken.Taken.TheVariants as takens
use Rattle.mls_follow.proofs.AcceptedProposals.{accepted_proposal}
use Rattle.mls_follow.proofs.KnownReadable.{commit-forgets, join-forgets}
use Rattle.mls_follow.proofs.Timed.{timed_accepted}

-- ---- a proposal that satisfies its rules

one_true : (b : Bool) → b ≡ true → (b && true) ≡ true
one_true true e = refl
one_true false e = e

module _ (G : VerifyFn) where
  content_accepted : (suite : ℕ) (key signature : List ℕ) (o : Option (List ℕ)) → is_good G suite key signature o ≡ true
      → are_accepted G (sign_content_signatures suite key signature o) ≡ true
  content_accepted suite key signature None e = refl
  content_accepted suite key signature (Some content) e = one_true (G suite key content signature) e

  text_accepted : (suite : ℕ) (key label : List ℕ) (o : Option (List ℕ)) (signature : List ℕ) → is_signed_text G suite key label o signature ≡ true
      → are_accepted G (labeled_signatures suite key label o signature) ≡ true
  text_accepted suite key label None signature e = refl
  text_accepted suite key label (Some tbs) signature e = content_accepted suite key signature (sign_content label tbs) e

  leaf_accepted : (suite : ℕ) (group_id : List ℕ) (i : ℕ) (x : LeafNode) → is_leaf_signed G suite group_id i x ≡ true
      → are_accepted G (leaf_signatures suite group_id i x) ≡ true
  unfolding is_leaf_signed
  leaf_accepted suite group_id i x e = text_accepted suite x.signature_key (codes "MLS 1.0 LeafNodeTBS") (leaf_tbs x group_id i) x.signature e

  package_accepted : (suite : ℕ) (k : KeyPackage) → is_package_signed G suite k ≡ true → are_accepted G (package_signatures suite k) ≡ true
  unfolding is_package_signed
  package_accepted suite k e = text_accepted suite k.leaf_node.signature_key package_label (package_tbs k) k.signature e

  module _ (context : GroupContext) where
    abbrev suite : ℕ
    suite = context.cipher_suite

    abbrev group_id : List ℕ
    group_id = context.group_id

    add_accepted : (k : KeyPackage) → is_valid_add G context k ≡ true
        → are_accepted G (leaf_signatures suite group_id 0 k.leaf_node ++ package_signatures suite k) ≡ true
    unfolding is_valid_add
    add_accepted k e =
        let leaf = is_leaf_signed G suite group_id 0 k.leaf_node in
        let whole = is_package_signed G suite k in
        let both = and-left (fits_group context k && leaf) whole e in
        list_all-append (is_accepted G) (leaf_signatures suite group_id 0 k.leaf_node) (package_signatures suite k)
        ∙ and_from (are_accepted G (leaf_signatures suite group_id 0 k.leaf_node)) (are_accepted G (package_signatures suite k))
        (leaf_accepted suite group_id 0 k.leaf_node (and-right (fits_group context k) leaf both))
        (package_accepted suite k (and-right (fits_group context k && leaf) whole e))

    update_accepted : (i : ℕ) (o : Option LeafNode) (x : LeafNode) → is_valid_update G context i o x ≡ true → are_accepted G (leaf_signatures suite group_id i x) ≡ true
    unfolding is_valid_update
    update_accepted i o x e = leaf_accepted suite group_id i x (and-right (fits_leaf o x) (is_leaf_signed G suite group_id i x) e)

    update_by_accepted : (t : Tree) (sender : Sender) (x : LeafNode) → is_valid_update_by G context t sender x ≡ true
        → are_accepted G (update_signatures context (member_index sender) x) ≡ true
    update_by_accepted t (senders.Member i) x e = update_accepted i (leaf_at 0 t i) x e
    update_by_accepted t (senders.External k) x e = refl
    update_by_accepted t senders.NewMemberProposal x e = refl
    update_by_accepted t senders.NewMemberCommit x e = refl

    valid_accepted : (t : Tree) (sender : Sender) (p : Proposal) → valid_if_add G context p ≡ true → valid_if_update G context t sender p ≡ true
        → are_accepted G (proposal_signatures context sender p) ≡ true
    valid_accepted t sender (proposals.Add k) e f = add_accepted k e
    valid_accepted t sender (proposals.Update x) e f = update_by_accepted t sender x f
    valid_accepted t sender (proposals.Remove j) e f = refl
    valid_accepted t sender (proposals.ContextExtensions es) e f = refl
    valid_accepted t sender (proposals.PreSharedKey id) e f = refl
    valid_accepted t sender (proposals.ReInit r) e f = refl
    valid_accepted t sender (proposals.ExternalInit output) e f = refl

    kept_accepted : (t : Tree) (sender : Sender) (p : Proposal) → AreKept (proposal_rules G context t sender p) → are_accepted G (proposal_signatures context sender p) ≡ true
    kept_accepted t sender p kept =
        let b = passed kept in valid_accepted t sender p b.0 (passed b.1).0

    valid_package : (p : Proposal) → valid_if_add G context p ≡ true → is_from_package p ≡ true
    unfolding is_valid_add fits_group
    valid_package (proposals.Add k) e =
        let version = k.version == context.version in
        let suites = k.cipher_suite == context.cipher_suite in
        let source = is_from_key_package k.leaf_node.source in
        let init = not (bytes_eq k.init_key k.leaf_node.encryption_key) in
        let leaf = is_leaf_signed G suite group_id 0 k.leaf_node in
        let whole = is_package_signed G suite k in
        and-right (version && suites) source
        (and-left (version && suites && source) init
        (and-left (version && suites && source && init) leaf (and-left (version && suites && source && init && leaf) whole e)))
    valid_package (proposals.Update x) e = refl
    valid_package (proposals.Remove j) e = refl
    valid_package (proposals.ContextExtensions es) e = refl
    valid_package (proposals.PreSharedKey id) e = refl
    valid_package (proposals.ReInit r) e = refl
    valid_package (proposals.ExternalInit output) e = refl

  -- ---- steps

  -- one more pending proposal
  pending_accepted : (s : State) (bytes r : List ℕ) (new : State) → IsTransition G s bytes (Ok (takens.Proposal r)) new → HasAcceptedPending G s → HasAcceptedPending G new
  pending_accepted s bytes r new h old =
      let one = accepted_proposal G s bytes r new h in
      let test : KnownProposal → Bool = λ k. are_accepted G (proposal_signatures s.context k.sender k.proposal) in
      let of_package : KnownProposal → Bool = λ k. is_from_package k.proposal in
      subst (HasAcceptedPending G) (sym one.new_is) (record {
        accepted =
            list_all-append test s.known (one.pending ∷ [])
            ∙ and_from (are_pending_accepted G s.context s.known) (test one.pending && true) old.accepted
            (one_true (test one.pending) (kept_accepted s.context s.tree one.pending.sender one.pending.proposal one.kept));
        packages =
            list_all-append of_package s.known (one.pending ∷ [])
            ∙ and_from (are_from_packages s.known) (of_package one.pending && true) old.packages
            (one_true (of_package one.pending) (valid_package s.context one.pending.proposal (passed one.kept).0));
      })

  none_pending : (s : State) → s.known ≡ [] → HasAcceptedPending G s
  none_pending s e = record { accepted = ap (are_pending_accepted G s.context) e; packages = ap are_from_packages e }

  -- a commit leaves none
  no_commit : (s : State) (a : AuthenticatedParts) (sender : Sender) (p : Proposal) (o : Option (List ℕ)) (step : Transition) (epoch : ℕ)
      → option_map (after_proposal s a sender p) o ≡ Some step → step.taken ≡ takens.Commit epoch → ⊥
  no_commit s a sender p o step epoch e taken =
      let w = came_from (after_proposal s a sender p) o step e in
      let bad : takens.Proposal w.0 ≡ takens.Commit epoch = ap (λ (u : Transition). u.taken) w.2 ∙ taken in
      absurd (cc)

  module _ (s : State) (a : AuthenticatedParts) (step : Transition) (epoch : ℕ) (taken : step.taken ≡ takens.Commit epoch) where
    content_forgets : (i : ℕ) (content : Content) → after_content s a i content ≡ Some step → step.state.known ≡ []
    content_forgets i (contents.Application sent) e = absurd (none-some step e)
    content_forgets i (contents.Proposal p) e = absurd (no_commit s a (senders.Member i) p (reference_of s.context a) step epoch e taken)
    content_forgets i (contents.Commit c) e = commit-forgets s a (senders.Member i) c (resolved (senders.Member i) s.known c.proposals) step e

    outside_forgets : (sender : Sender) (content : Content) → after_outside s a sender content ≡ Some step → step.state.known ≡ []
    outside_forgets sender (contents.Application sent) e = absurd (none-some step e)
    outside_forgets sender (contents.Proposal p) e = absurd (no_commit s a sender p (reference_of s.context a) step epoch e taken)
    outside_forgets sender (contents.Commit c) e = absurd (none-some step e)

    sender_forgets : (sender : Sender) → after_sender s a sender ≡ Some step → step.state.known ≡ []
    sender_forgets (senders.Member i) e = content_forgets i a.content.content e
    sender_forgets (senders.External k) e = outside_forgets (senders.External k) a.content.content e
    sender_forgets senders.NewMemberProposal e = outside_forgets senders.NewMemberProposal a.content.content e
    sender_forgets senders.NewMemberCommit e = join-forgets s a a.content.content step e

  message_forgets : (s : State) (m : Message) (step : Transition) (epoch : ℕ) → step.taken ≡ takens.Commit epoch → next s m ≡ Some step → step.state.known ≡ []
  message_forgets s (messages.Public m) step epoch taken e = sender_forgets s m.auth step epoch taken m.auth.content.sender e
  message_forgets s (messages.Unread w b) step epoch taken e = absurd (none-some step e)
  message_forgets s (messages.GroupInfo g) step epoch taken e = absurd (none-some step e)
  message_forgets s (messages.KeyPackage k) step epoch taken e = absurd (none-some step e)

  taken_accepted : (s : State) (bytes : List ℕ) (taken : Taken) (new : State) → IsTransition G s bytes (Ok taken) new → HasAcceptedPending G s → HasAcceptedPending G new
  taken_accepted s bytes (takens.Proposal r) new h old = pending_accepted s bytes r new h old
  taken_accepted s bytes (takens.Commit epoch) new h old =
      let n : IsNext s bytes (record { taken = takens.Commit epoch; state = new }) = h.1 in
      none_pending new (message_forgets s n.message (record { taken = takens.Commit epoch; state = new }) epoch refl n.after)

  pub timed_pending : (now : Option ℕ) (s : State) (bytes : List ℕ) (answer : Result Taken Refusal) (new : State) → IsTransitionAt now G s bytes answer new
      → HasAcceptedPending G s → HasAcceptedPending G new
  timed_pending now s bytes (Ok taken) new h old = taken_accepted s bytes taken new (timed_accepted now G s bytes h.0, h.1) old
  timed_pending now s bytes (Err e) new h old = subst (HasAcceptedPending G) (sym h.0) old

  -- ---- first states

  pub start_pending : (asked : Rules) (profile : Profile) (info : GroupInfo) (supplied : Option RatchetTree) (s : State) → IsStart asked profile G info supplied s → HasAcceptedPending G s
  start_pending asked profile info supplied s h = none_pending s (ap (λ (t : State). t.known) h.state)

  entries_pending : (s : State) (es : List AuthenticatedParts) (new : State) → HoldEntries G s es new → HasAcceptedPending G s → HasAcceptedPending G new
  entries_pending s [] new h old = subst (HasAcceptedPending G) (sym h) old
  entries_pending s (a ∷ es) new h old =
      entries_pending h.0 es new h.2 (pending_accepted s h.1.accepts.bytes h.1.accepts.reference h.0 h.1.accepts.accepted old)

  -- other rules, and others that were added, leave it as it is
  same_pending : (s t : State) → t.context ≡ s.context → t.known ≡ s.known → HasAcceptedPending G s → HasAcceptedPending G t
  same_pending s t e f old = record {
    accepted = (λ i. are_pending_accepted G (e i) (f i)) ∙ old.accepted;
    packages = ap are_from_packages f ∙ old.packages;
  }

  pub added_pending : (asked : Rules) (s new : State) → HasAddedRules asked s new → HasAcceptedPending G s → HasAcceptedPending G new
  added_pending asked s new h old = same_pending s new (ap (λ (t : State). t.context) h.state) (ap (λ (t : State). t.known) h.state) old

  pub answered_pending : {A B : Type 0} (asked : Rules) (old new : Group) (r : Result A B) → OnOk r (HasAddedRules asked (group_state old) (group_state new))
      → OnErr r (new ≡ old) → HasAcceptedPending G (group_state old) → HasAcceptedPending G (group_state new)
  answered_pending asked old new (Ok x) made same h = added_pending asked (group_state old) (group_state new) made h
  answered_pending asked old new (Err e) made same h = subst (λ (g : Group). HasAcceptedPending G (group_state g)) (sym same) h

  content_pending : (c : FollowerState) (t : RatchetTree) (s : State) → IsStateOf G c t s → HasAcceptedPending G s
  content_pending c t s h =
      let plain = h.is_plain in
      let held = entries_pending (base_state c t) c.known plain.with_pending plain.held (none_pending (base_state c t) refl) in
      added_pending c.rules h.without_rules s h.made_strict
      (same_pending plain.with_pending h.without_rules (ap (λ (u : State). u.context) plain.state) (ap (λ (u : State). u.known) plain.state) held)

  pub resumed_pending : (bytes : List ℕ) (s : State) → IsResumed G bytes s → HasAcceptedPending G s
  resumed_pending bytes s h = content_pending h.content h.tree s h.state

-- ---- more signatures are good

module _ (G K : VerifyFn) (more : Extends G K) where
  both_stay : (a b c d : Bool) → (a ≡ true → c ≡ true) → (b ≡ true → d ≡ true) → (a && b) ≡ true → (c && d) ≡ true
  both_stay a b c d f g e = and_from c d (f (and-left a b e)) (g (and-right a b e))

  signatures_stay : (qs : List SignatureToVerify) → are_accepted G qs ≡ true → are_accepted K qs ≡ true
  signatures_stay [] e = refl
  signatures_stay (q ∷ qs) e =
      both_stay (is_accepted G q) (are_accepted G qs) (is_accepted K q) (are_accepted K qs) (more q.suite q.key q.content q.signature) (signatures_stay qs) e

  known_stays : (context : GroupContext) (known : List KnownProposal) → are_pending_accepted G context known ≡ true → are_pending_accepted K context known ≡ true
  known_stays context [] e = refl
  known_stays context (k ∷ ks) e =
      let own = proposal_signatures context k.sender k.proposal in
      both_stay (are_accepted G own) (are_pending_accepted G context ks) (are_accepted K own) (are_pending_accepted K context ks) (signatures_stay own) (known_stays context ks) e

  pub pending_stays : (s : State) → HasAcceptedPending G s → HasAcceptedPending K s
  pending_stays s h = record { accepted = known_stays s.context s.known h.accepted; packages = h.packages }
