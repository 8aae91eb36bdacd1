-- In the members' profile the rules that are numbered above 27 hold, and states stay in the profile.
use Rattle.std.proofs.Common.{◌≡◌, ◌∙◌, ℕ, List, [], ◌∷◌, ◌++◌, Bool, true, false, cond, not, Option, Some, None, refl, sym, ap, subst}
use Rattle.std.specs.Prelude.{All, ◌&&◌, ◌||◌, filter, filter_map, if◌then◌else◌, option_map, option_and_then}
use Rattle.std.specs.List.{list_all}
use Rattle.std.specs.Str.{bytes_eq}
use Rattle.std.proofs.lemmas.Bool.{false≢true}
use Rattle.std.proofs.lemmas.List.Elements.{All-nil, All-cons, All-head, All-tail, All-push}
use Rattle.std.proofs.lemmas.Option.{none-some, same_Some, option_and_then_some}
use Rattle.mls_nodes.specs.declared.leaf.LeafNode.{LeafNode}
use Rattle.mls_nodes.specs.declared.required_capabilities.RequiredCapabilities.{RequiredCapabilities}
use Rattle.mls_tree.specs.Tree.{Tree, leaf_at}
use Rattle.mls_hash.specs.SuiteHash.{hash_of}
use Rattle.mls_tree.specs.TreeHash.{tree_hash}
use Rattle.mls_check.specs.Signatures.{VerifyFn}
use Rattle.mls_check.specs.declared.members.MemberFault.{MemberFault}
use Rattle.mls_state.specs.declared.state.GroupMode.{GroupMode}
use Rattle.mls_state.specs.declared.state.GroupMode.TheVariants as modes
use Rattle.mls_msgs.specs.Profile.{is_in, is_members_proposal, is_members_entry, are_members_entries, is_members_content, is_members_message}
use Rattle.mls_msgs.specs.declared.authenticated.AuthenticatedParts.{AuthenticatedParts}
use Rattle.mls_msgs.specs.declared.commit.Commit.{Commit}
use Rattle.mls_msgs.specs.declared.commit.UpdatePath.{UpdatePath}
use Rattle.mls_msgs.specs.declared.framed_content.Content.{Content}
use Rattle.mls_msgs.specs.declared.framed_content.Content.TheVariants as contents
use Rattle.mls_msgs.specs.declared.framed_content.Sender.{Sender}
use Rattle.mls_msgs.specs.declared.framed_content.Sender.TheVariants as senders
use Rattle.mls_msgs.specs.declared.message.Message.{Message}
use Rattle.mls_msgs.specs.declared.message.Message.TheVariants as messages
use Rattle.mls_msgs.specs.declared.profile.Profile.{Profile}
use Rattle.mls_msgs.specs.declared.profile.Profile.TheVariants.{Members, Full}
use Rattle.mls_msgs.specs.declared.proposal.Proposal.{Proposal}
use Rattle.mls_msgs.specs.declared.proposal.Proposal.TheVariants.{Add, Update, Remove, ContextExtensions, PreSharedKey, ReInit, ExternalInit}
use Rattle.mls_msgs.specs.declared.proposal.ProposalOrRef.{ProposalOrRef}
use Rattle.mls_msgs.specs.declared.proposal.ProposalOrRef.TheVariants as entries
use Rattle.mls_apply.specs.declared.list_item.ListItem.{ListItem}
use Rattle.mls_apply.specs.declared.list_item.KnownProposal.{KnownProposal}
use Rattle.mls_apply.specs.declared.refusal.Refusal.{Refusal}
use Rattle.mls_apply.specs.AppliedList.{AppliedTree, outcome}
use Rattle.mls_apply.specs.ContextExtensions.{proposed_extensions}
use Rattle.mls_apply.specs.ListRules.{is_reinit, has_reinit, is_reinit_alone}
use Rattle.mls_apply.specs.OutcomeItems.{is_members_item}
use Rattle.mls_apply.specs.ProposalRules.{valid_if_psk, valid_if_reinit, is_no_external_init, holds_if_by_value, all_inline}
use Rattle.mls_apply.specs.PskProposals.{psk_in, psk_of, are_distinct_psks, have_distinct_psks}
use Rattle.mls_apply.specs.ResolvedList.{find_known, item_of, entry_item, with_first, resolved}
use Rattle.mls_apply.specs.RuleLists.{Rule, rule, first_failing}
use Rattle.mls_apply.proofs.Merging.{came_from}
use Rattle.mls_apply.proofs.RuleLists.{AreKept, passed, refused}
use Rattle.mls_follow.specs.State.{State}
use Rattle.mls_follow.specs.MembersProfile.{IsOfMember, IsMembersState, is_members_rule, MembersRulesDecide, MembersStatesStay, MembersStart, MembersResume}
use Rattle.mls_follow.specs.MessageRules.{reference_of, proposal_message_rules, member_rules, tree_rules, CommitterTree, committer_tree, resulting, path_rules_of, committer_tree_rules, required_after, rules_with_requirements, proposal_list_rules, commit_rules, content_rules, leaf_rules, if_full, sender_rules, frame_rules, message_rules}
use Rattle.mls_follow.specs.NextState.{Transition, after_proposal, pending_proposal, committed, after_tree, commit_tree, with_list, is_over_after, after_content, after_sender, next}
use Rattle.mls_follow.specs.Resumption.{HoldEntries, base_state, is_over, profile_of_mode}
use Rattle.mls_follow.specs.declared.taken.Taken.TheVariants as takens
use Rattle.mls_follow.proofs.AcceptedProposals.{accepted_proposal}
use Rattle.mls_apply.specs.Transcript.{confirmed_hash, interim_hash}
use Rattle.mls_follow.proofs.Answering.{one_message}
use Rattle.mls_follow.proofs.StrictLists.{plain_kept}

-- ---- lists of rules

-- the first rule that fails is one of the members' rules
record Passes (rs : List (Rule Refusal)) : Type 0 where
  same : first_failing rs ≡ first_failing (filter is_members_rule rs)

pass_none : Passes []
pass_none = record { same = refl }

-- one of them
pass_kept : {e : Refusal} {b : Bool} {rs : List (Rule Refusal)} → is_members_rule (rule e b) ≡ true → Passes rs → Passes (rule e b ∷ rs)
pass_kept {e = e} {b = b} {rs = rs} n h = record {
  same =
      ap (λ (o : Option Refusal). if b then o else Some e) h.same
      ∙ ap (λ (c : Bool). first_failing (cond c (rule e b ∷ filter is_members_rule rs) (filter is_members_rule rs))) (sym n);
}

-- another, which holds
pass_full : {e : Refusal} {b : Bool} {rs : List (Rule Refusal)} → is_members_rule (rule e b) ≡ false → b ≡ true → Passes rs → Passes (rule e b ∷ rs)
pass_full {e = e} {b = b} {rs = rs} n holds h = record {
  same =
      ap (λ (c : Bool). if c then first_failing rs else Some e) holds
      ∙ h.same
      ∙ ap (λ (c : Bool). first_failing (cond c (rule e b ∷ filter is_members_rule rs) (filter is_members_rule rs))) (sym n);
}

-- ---- proposals

abbrev IsMembers : Proposal → Type 0
IsMembers p = is_members_proposal p ≡ true

module _ (s : State) (sender : Sender) where
  psk_holds : (p : Proposal) → IsMembers p → valid_if_psk s.context sender p ≡ true
  psk_holds (Add k) h = refl
  psk_holds (Update x) h = refl
  psk_holds (Remove i) h = refl
  psk_holds (ContextExtensions es) h = refl
  psk_holds (PreSharedKey id) h = absurd (false≢true h)
  psk_holds (ReInit r) h = refl
  psk_holds (ExternalInit output) h = refl

  reinit_holds : (p : Proposal) → IsMembers p → valid_if_reinit s.context p ≡ true
  reinit_holds (Add k) h = refl
  reinit_holds (Update x) h = refl
  reinit_holds (Remove i) h = refl
  reinit_holds (ContextExtensions es) h = refl
  reinit_holds (PreSharedKey id) h = refl
  reinit_holds (ReInit r) h = absurd (false≢true h)
  reinit_holds (ExternalInit output) h = refl

external_holds : (p : Proposal) → IsMembers p → is_no_external_init p ≡ true
external_holds (Add k) h = refl
external_holds (Update x) h = refl
external_holds (Remove i) h = refl
external_holds (ContextExtensions es) h = refl
external_holds (PreSharedKey id) h = refl
external_holds (ReInit r) h = refl
external_holds (ExternalInit output) h = absurd (false≢true h)

both_true : (a b : Bool) → (a && b) ≡ true → (a ≡ true) × (b ≡ true)
both_true true b e = (refl, e)
both_true false b e = absurd (false≢true e)

-- a test that holds of the members' proposals holds of those of a commit in the profile
inline_holds : (f : Proposal → Bool) → ((p : Proposal) → IsMembers p → f p ≡ true) → (es : List ProposalOrRef) → are_members_entries es ≡ true → all_inline f es ≡ true
unfolding all_inline
inline_holds f each [] h = refl
inline_holds f each (entries.Proposal p ∷ es) h =
    let k = both_true (is_members_proposal p) (are_members_entries es) h in
    ap (λ (b : Bool). b && list_all (holds_if_by_value f) es) (each p k.0) ∙ inline_holds f each es k.1
inline_holds f each (entries.Reference r ∷ es) h = inline_holds f each es h

-- ---- proposal lists

abbrev AreMembers : List ListItem → Type 0
AreMembers items = All (λ x. is_members_item x ≡ true) items

no_psk : (p : Proposal) → IsMembers p → psk_in p ≡ None
no_psk (Add k) h = refl
no_psk (Update x) h = refl
no_psk (Remove i) h = refl
no_psk (ContextExtensions es) h = refl
no_psk (PreSharedKey id) h = absurd (false≢true h)
no_psk (ReInit r) h = refl
no_psk (ExternalInit output) h = refl

no_reinit : (p : Proposal) → IsMembers p → is_reinit p ≡ false
no_reinit (Add k) h = refl
no_reinit (Update x) h = refl
no_reinit (Remove i) h = refl
no_reinit (ContextExtensions es) h = refl
no_reinit (PreSharedKey id) h = refl
no_reinit (ReInit r) h = absurd (false≢true h)
no_reinit (ExternalInit output) h = refl

no_psks : (items : List ListItem) → AreMembers items → filter_map psk_of items ≡ []
no_psks [] all = refl
no_psks (x ∷ xs) all =
    rw (no_psk x.proposal (All-head (λ x. is_members_item x ≡ true) x xs all)) (no_psks xs (All-tail (λ x. is_members_item x ≡ true) x xs all))

psks_hold : (items : List ListItem) → AreMembers items → have_distinct_psks items ≡ true
unfolding have_distinct_psks
psks_hold items all = ap are_distinct_psks (no_psks items all)

no_reinits : (items : List ListItem) → AreMembers items → has_reinit items ≡ false
no_reinits [] all = refl
no_reinits (x ∷ xs) all =
    ap (λ (b : Bool). b || has_reinit xs) (no_reinit x.proposal (All-head (λ x. is_members_item x ≡ true) x xs all))
    ∙ no_reinits xs (All-tail (λ x. is_members_item x ≡ true) x xs all)

alone_holds : (items : List ListItem) → AreMembers items → is_reinit_alone items ≡ true
unfolding is_reinit_alone
alone_holds items all = rw (no_reinits items all) refl

-- the list of a commit
found_members : (known : List KnownProposal) (reference : List ℕ) (x : ListItem) → All IsOfMember known → option_map item_of (find_known known reference) ≡ Some x
    → is_members_item x ≡ true
found_members [] reference x all e = absurd (none-some x e)
found_members (k ∷ ks) reference x all e =
    go (bytes_eq k.reference reference) (λ f. found_members ks reference x (All-tail IsOfMember k ks all) f) e
  where
    go : (b : Bool) → (option_map item_of (find_known ks reference) ≡ Some x → is_members_item x ≡ true)
        → option_map item_of (if b then Some k else find_known ks reference) ≡ Some x → is_members_item x ≡ true
    go true later e = subst (λ (y : ListItem). is_members_item y ≡ true) (same_Some (item_of k) x e) (All-head IsOfMember k ks all).proposal
    go false later e = later e

entry_members : (committer : Sender) (known : List KnownProposal) (entry : ProposalOrRef) (x : ListItem) → All IsOfMember known → is_members_entry entry ≡ true
    → entry_item committer known entry ≡ Some x → is_members_item x ≡ true
entry_members committer known (entries.Proposal p) x all h e =
    subst (λ (y : ListItem). is_members_item y ≡ true) (same_Some (record { sender = committer; proposal = p }) x e) h
entry_members committer known (entries.Reference reference) x all h e = found_members known reference x all e

resolved_members : (committer : Sender) (known : List KnownProposal) (es : List ProposalOrRef) (items : List ListItem) → All IsOfMember known
    → are_members_entries es ≡ true → resolved committer known es ≡ Some items → AreMembers items
resolved_members committer known [] items all h e = subst AreMembers (same_Some [] items e) (All-nil (λ x. is_members_item x ≡ true))
resolved_members committer known (entry ∷ es) items all h e =
    let k = both_true (is_members_entry entry) (are_members_entries es) h in
    go (entry_item committer known entry) (resolved committer known es)
    (λ x f. entry_members committer known entry x all k.0 f)
    (λ xs f. resolved_members committer known es xs all k.1 f) e
  where
    go : (o : Option ListItem) (p : Option (List ListItem)) → ((x : ListItem) → o ≡ Some x → is_members_item x ≡ true) → ((xs : List ListItem) → p ≡ Some xs → AreMembers xs)
        → with_first o p ≡ Some items → AreMembers items
    go None p one more e = absurd (none-some items e)
    go (Some x) None one more e = absurd (none-some items e)
    go (Some x) (Some xs) one more e =
        subst AreMembers (same_Some (x ∷ xs) items e) (All-cons (λ x. is_members_item x ≡ true) x xs (one x refl) (more xs refl))

-- ---- the rules for a message

module _ (G : VerifyFn) (s : State) (h : IsMembersState s) (required : RequiredCapabilities) where
  of_members : (o : Option MemberFault) → Passes (member_rules o)
  of_members None = pass_none
  of_members (Some f) = pass_kept refl pass_none

  of_tree : (needed : RequiredCapabilities) (o : Option Tree) → Passes (tree_rules G s needed o)
  of_tree needed None = pass_none
  of_tree needed (Some t) = pass_kept refl (of_members _)

  of_path_then : (H : List ℕ → List ℕ) (g : AppliedTree) (i : ℕ) (o : Option UpdatePath) (rs : List (Rule Refusal)) → Passes rs → Passes (path_rules_of H g i o ++ rs)
  of_path_then H g i None rs k = k
  of_path_then H g i (Some path) rs k = pass_kept refl (pass_kept refl (pass_kept refl (pass_kept refl (pass_kept refl k))))

  of_committer_tree : (needed : RequiredCapabilities) (path : Option UpdatePath) (o : Option CommitterTree) → Passes (committer_tree_rules G s needed path o)
  of_committer_tree needed path None = pass_kept refl pass_none
  of_committer_tree needed path (Some q) =
      of_path_then (hash_of s.context.cipher_suite) q.applied_tree q.leaf path (tree_rules G s needed (resulting (hash_of s.context.cipher_suite) q.applied_tree q.leaf path))
      (of_tree needed (resulting (hash_of s.context.cipher_suite) q.applied_tree q.leaf path))

  of_under : (committer : Sender) (path : Option UpdatePath) (o : Option AppliedTree) (needed : Option RequiredCapabilities)
      → Passes (rules_with_requirements G s committer path o needed)
  of_under committer path o None = pass_kept refl pass_none
  of_under committer path o (Some needed) = of_committer_tree needed path (option_and_then (committer_tree committer) o)

  of_items : (i : ℕ) (c : Commit) → are_members_entries c.proposals ≡ true → (o : Option (List ListItem)) → resolved (senders.Member i) s.known c.proposals ≡ o
      → Passes (proposal_list_rules G s required i c o)
  of_items i c members None e = pass_kept refl pass_none
  of_items i c members (Some items) e =
      let all = resolved_members (senders.Member i) s.known c.proposals items h.known members e in
      pass_kept refl (pass_kept refl (pass_kept refl (pass_kept refl
      (pass_full refl (inline_holds (valid_if_psk s.context (senders.Member i)) (psk_holds s (senders.Member i)) c.proposals members)
      (pass_full refl (inline_holds (valid_if_reinit s.context) (reinit_holds s (senders.Member i)) c.proposals members)
      (pass_full refl (inline_holds is_no_external_init external_holds c.proposals members)
      (pass_kept refl (pass_kept refl (pass_kept refl (pass_kept refl
      (pass_full refl (psks_hold items all) (pass_full refl (alone_holds items all)
      (pass_kept refl (of_under (senders.Member i) c.path (outcome items s.tree) (required_after required (proposed_extensions items))))))))))))))))

  of_offer : (a : AuthenticatedParts) (sender : Sender) (p : Proposal) → IsMembers p → Passes (proposal_message_rules G s a sender p)
  of_offer a sender p members =
      pass_kept refl (pass_kept refl (pass_kept refl (pass_kept refl (pass_kept refl
      (pass_full refl (psk_holds s sender p members) (pass_full refl (reinit_holds s sender p members) (pass_full refl (external_holds p members) pass_none)))))))

  of_commit : (i : ℕ) (c : Commit) → are_members_entries c.proposals ≡ true → Passes (commit_rules G s required i c)
  of_commit i c members = pass_kept refl (of_items i c members (resolved (senders.Member i) s.known c.proposals) refl)

  of_full : (profile : Profile) → profile ≡ Members → (rs : List (Rule Refusal)) → Passes (if_full profile rs)
  of_full Members e rs = pass_kept refl pass_none
  of_full Full e rs = absurd (cc)

  module _ (a : AuthenticatedParts) where
    of_content : (i : ℕ) (x : LeafNode) (c : Content) → is_members_content c ≡ true → Passes (content_rules G s required a i x c)
    of_content i x (contents.Application _) members = pass_kept refl pass_none
    of_content i x (contents.Proposal p) members = pass_kept refl (of_offer a (senders.Member i) p members)
    of_content i x (contents.Commit c) members = pass_kept refl (of_commit i c members)

    of_leaf : (i : ℕ) (o : Option LeafNode) → is_members_content a.content.content ≡ true → Passes (leaf_rules G s required a i o)
    of_leaf i None members = pass_kept refl pass_none
    of_leaf i (Some x) members = of_content i x a.content.content members

    of_sender : (sender : Sender) → is_members_content a.content.content ≡ true → Passes (sender_rules G s required a sender)
    of_sender (senders.Member i) members = of_leaf i (leaf_at 0 s.tree i) members
    of_sender (senders.External k) members = of_full s.profile h.profile _
    of_sender senders.NewMemberProposal members = of_full s.profile h.profile _
    of_sender senders.NewMemberCommit members = of_full s.profile h.profile _

    of_frame : is_members_content a.content.content ≡ true → Passes (frame_rules G s required a)
    of_frame members = pass_kept refl (pass_kept refl (pass_full refl (ap not h.going) (of_sender a.content.sender members)))

  of_message : (m : Message) → is_members_message m ≡ true → Passes (message_rules G s required m)
  of_message (messages.Public p) members = of_frame p.auth members
  of_message (messages.Unread _ _) members = pass_kept refl pass_none
  of_message (messages.GroupInfo _) members = pass_kept refl pass_none
  of_message (messages.KeyPackage _) members = pass_kept refl pass_none

pub rules_decide : MembersRulesDecide
rules_decide G s required m bytes h e = (of_message G s h required m e.allowed).same

-- ---- the next state

-- the profile stays, the group goes on, and no proposal is pending
record Clears (s t : State) : Type 0 where
  profile : t.profile ≡ s.profile
  ended : t.ended ≡ s.ended
  known : t.known ≡ []

tree-clears : (u : State) (a : AuthenticatedParts) (t : Tree) (step : Transition) → after_tree u a t ≡ Some step → Clears u step.state
tree-clears u a t step e =
    option_and_then_some (λ hash.
    option_and_then (λ confirmed. option_map (committed u t hash confirmed) (interim_hash (hash_of u.context.cipher_suite) confirmed a.confirmation_tag))
    (confirmed_hash (hash_of u.context.cipher_suite) u.interim a))
    (tree_hash (hash_of u.context.cipher_suite) 0 t) step e
    (λ hash f g.
    option_and_then_some (λ confirmed. option_map (committed u t hash confirmed) (interim_hash (hash_of u.context.cipher_suite) confirmed a.confirmation_tag))
    (confirmed_hash (hash_of u.context.cipher_suite) u.interim a) step g
    (λ confirmed k l.
    (let w = came_from (committed u t hash confirmed) (interim_hash (hash_of u.context.cipher_suite) confirmed a.confirmation_tag) step l in
    let clears : Clears u (committed u t hash confirmed w.0).state = record { profile = refl; ended = refl; known = refl } in
    subst (λ (v : Transition). Clears u v.state) w.2 clears)))

module _ (G : VerifyFn) (s : State) (h : IsMembersState s) (required : RequiredCapabilities) where
  over_after : (o : Option (List ListItem)) → ((items : List ListItem) → o ≡ Some items → AreMembers items) → is_over_after o ≡ false
  over_after None each = refl
  over_after (Some items) each = no_reinits items (each items refl)

  cleared : (o : Option (List ListItem)) (t : State) → is_over_after o ≡ false → Clears (with_list s o) t → IsMembersState t
  cleared o t over c = record {
    profile = c.profile ∙ h.profile;
    going = c.ended ∙ over;
    known = subst (All IsOfMember) (sym c.known) (All-nil IsOfMember);
  }

  commit-members : (a : AuthenticatedParts) (i : ℕ) (c : Commit) (step : Transition) → are_members_entries c.proposals ≡ true → after_content s a i (contents.Commit c) ≡ Some step
      → IsMembersState step.state
  commit-members a i c step members e =
      let o = resolved (senders.Member i) s.known c.proposals in
      option_and_then_some (after_tree (with_list s o) a) (commit_tree s (senders.Member i) c o) step e
      (λ t f g. cleared o step.state (over_after o (λ items is. resolved_members (senders.Member i) s.known c.proposals items h.known members is))
      (tree-clears (with_list s o) a t step g))

  proposal-members : (a : AuthenticatedParts) (i : ℕ) (p : Proposal) (o : Option (List ℕ)) (step : Transition) → IsMembers p
      → option_map (after_proposal s a (senders.Member i) p) o ≡ Some step → IsMembersState step.state
  proposal-members a i p o step members e =
      let w = came_from (after_proposal s a (senders.Member i) p) o step e in
      let pushed : IsMembersState (after_proposal s a (senders.Member i) p w.0).state = record {
        profile = h.profile;
        going = h.going;
        known = All-push IsOfMember s.known (pending_proposal a (senders.Member i) p w.0) h.known (record { proposal = members; sender = refl });
      } in
      subst (λ (u : Transition). IsMembersState u.state) w.2 pushed

  module _ (a : AuthenticatedParts) (step : Transition) where
    content-members : (i : ℕ) (content : Content) → is_members_content content ≡ true → after_content s a i content ≡ Some step → IsMembersState step.state
    content-members i (contents.Application sent) members e = absurd (none-some step e)
    content-members i (contents.Proposal p) members e = proposal-members a i p (reference_of s.context a) step members e
    content-members i (contents.Commit c) members e = commit-members a i c step members e

    no_full : (profile : Profile) → profile ≡ Members → (rs : List (Rule Refusal)) → AreKept (if_full profile rs) → ⊥
    no_full Members e rs kept = refused kept
    no_full Full e rs kept = absurd (cc)

    sender-members : (sender : Sender) → is_members_content a.content.content ≡ true → AreKept (sender_rules G s required a sender)
        → after_sender s a sender ≡ Some step → IsMembersState step.state
    sender-members (senders.Member i) members kept e = content-members i a.content.content members e
    sender-members (senders.External k) members kept e = absurd (no_full s.profile h.profile _ kept)
    sender-members senders.NewMemberProposal members kept e = absurd (no_full s.profile h.profile _ kept)
    sender-members senders.NewMemberCommit members kept e = absurd (no_full s.profile h.profile _ kept)

  step-members : (m : Message) (step : Transition) → is_members_message m ≡ true → first_failing (message_rules G s required m) ≡ None → next s m ≡ Some step
      → IsMembersState step.state
  step-members (messages.Public p) step members kept e =
      let frame : AreKept (frame_rules G s required p.auth) = record { none = kept } in
      sender-members p.auth step p.auth.content.sender members (passed (passed (passed frame).1).1).1 e
  step-members (messages.Unread w b) step members kept e = absurd (none-some step e)
  step-members (messages.GroupInfo g) step members kept e = absurd (none-some step e)
  step-members (messages.KeyPackage k) step members kept e = absurd (none-some step e)

-- what is in the profile of a state of the members'
in_members : (profile : Profile) (b : Bool) → profile ≡ Members → is_in profile b ≡ true → b ≡ true
in_members Members b e i = i
in_members Full b e i = absurd (cc)

pub states_stay : MembersStatesStay
states_stay G s bytes step h a n =
    step-members G s h a.required a.message step (in_members s.profile (is_members_message a.message) h.profile a.encoded.allowed) (plain_kept G s a.required a.message a.rules_hold)
    (ap (next s) (one_message a.message n.message bytes a.encoded n.encoded) ∙ n.after)

-- ---- first states

pub members_start : MembersStart
members_start asked G info supplied s h = subst IsMembersState (sym h.state) (record { profile = refl; going = refl; known = All-nil IsOfMember })

holds_members : (G : VerifyFn) (s : State) (es : List AuthenticatedParts) (new : State) → IsMembersState s → HoldEntries G s es new → IsMembersState new
holds_members G s [] new h held = subst IsMembersState (sym held) h
holds_members G s (e ∷ es) new h held =
    let one = held.1.accepts in
    holds_members G held.0 es new
    (states_stay G s one.bytes (record { taken = takens.Proposal one.reference; state = held.0 }) h one.accepted.0 one.accepted.1) held.2

holds_profile : (G : VerifyFn) (s : State) (es : List AuthenticatedParts) (new : State) → HoldEntries G s es new → new.profile ≡ s.profile
holds_profile G s [] new held = ap (λ (t : State). t.profile) held
holds_profile G s (e ∷ es) new held =
    let one = held.1.accepts in
    holds_profile G held.0 es new held.2 ∙ ap (λ (t : State). t.profile) (accepted_proposal G s one.bytes one.reference held.0 one.accepted).new_is

mode_open : (m : GroupMode) → profile_of_mode m ≡ Members → is_over m ≡ false
mode_open modes.Members e = refl
mode_open modes.Full e = refl
mode_open modes.Ended e = absurd (cc)

pub members_resume : MembersResume
members_resume G bytes s h members =
    let plain = h.state.is_plain in
    let c = h.content in
    let same : s.profile ≡ plain.with_pending.profile = ap (λ (t : State). t.profile) h.state.made_strict.state ∙ ap (λ (t : State). t.profile) plain.state in
    let profile : profile_of_mode c.mode ≡ Members = sym (holds_profile G (base_state c h.tree) c.known plain.with_pending plain.held) ∙ sym same ∙ members in
    let held =
    holds_members G (base_state c h.tree) c.known plain.with_pending (record { profile = profile; going = mode_open c.mode profile; known = All-nil IsOfMember }) plain.held in
    let bare : IsMembersState h.state.without_rules =
    subst IsMembersState (sym plain.state) (record { profile = held.profile; going = held.going; known = held.known }) in
    subst IsMembersState (sym h.state.made_strict.state) (record { profile = bare.profile; going = bare.going; known = bare.known })
