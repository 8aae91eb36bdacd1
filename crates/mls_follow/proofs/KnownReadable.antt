-- What the proposals that a follower knows would require can be read, and so what is required after a commit.
use Rattle.std.proofs.Common.{◌≡◌, ℕ, List, [], ◌∷◌, Bool, true, false, Option, Some, None, IsSome, refl, sym, ap, subst}
use Rattle.std.specs.Prelude.{if◌then◌else◌, ◌&&◌, option_map, option_and_then}
use Rattle.std.specs.Str.{bytes_eq}
use Rattle.std.proofs.lemmas.Bool.{false≢true}
use Rattle.std.proofs.lemmas.List.Elements.{All-nil, All-head, All-tail, All-push}
use Rattle.std.proofs.lemmas.Option.{none-some, same_Some, option_and_then_some}
use Rattle.mls_nodes.specs.declared.required_capabilities.RequiredCapabilities.{RequiredCapabilities}
use Rattle.mls_tree.specs.Tree.{Tree}
use Rattle.mls_check.specs.Signatures.{VerifyFn}
use Rattle.mls_msgs.specs.declared.authenticated.AuthenticatedParts.{AuthenticatedParts}
use Rattle.mls_msgs.specs.declared.commit.Commit.{Commit}
use Rattle.mls_msgs.specs.declared.framed_content.Content.{Content}
use Rattle.mls_msgs.specs.declared.framed_content.Content.TheVariants as contents
use Rattle.mls_msgs.specs.declared.framed_content.Sender.{Sender}
use Rattle.mls_msgs.specs.declared.framed_content.Sender.TheVariants as senders
use Rattle.mls_msgs.specs.declared.proposal.Proposal.{Proposal}
use Rattle.mls_msgs.specs.declared.proposal.Proposal.TheVariants.{Add, Update, Remove, ContextExtensions, PreSharedKey, ReInit, ExternalInit}
use Rattle.mls_msgs.specs.declared.proposal.ProposalOrRef.{ProposalOrRef}
use Rattle.mls_msgs.specs.declared.proposal.ProposalOrRef.TheVariants as entries
use Rattle.mls_apply.specs.declared.list_item.ListItem.{ListItem}
use Rattle.mls_apply.specs.declared.list_item.KnownProposal.{KnownProposal}
use Rattle.mls_apply.specs.ContextExtensions.{proposed_extensions, first_some, extensions_of}
use Rattle.mls_apply.specs.JoinRules.{join_items}
use Rattle.mls_apply.specs.ResolvedList.{find_known, item_of, entry_item, with_first, resolved}
use Rattle.mls_apply.specs.ProposalRules.{proposal_rules, all_inline, holds_if_by_value, valid_if_extensions, are_valid_extensions}
use Rattle.mls_apply.proofs.Merging.{came_from}
use Rattle.mls_apply.proofs.RuleLists.{AreKept, passed}
use Rattle.mls_nodes.specs.declared.context.GroupContext.{GroupContext}
use Rattle.mls_hash.specs.SuiteHash.{hash_of}
use Rattle.mls_follow.specs.State.{State}
use Rattle.mls_follow.specs.StoredState.{pending_contents}
use Rattle.mls_follow.specs.StoredRuns.{bare_state}
use Rattle.mls_follow.specs.Resumption.{HoldEntries}
use Rattle.mls_follow.proofs.AcceptedProposals.{accepted_proposal}
use Rattle.mls_follow.proofs.Resumable.{followers_resumable}
use Rattle.mls_follow.specs.ReadableExtensions.{AreReadable, FollowersKnowReadable, CommitsAreReadable}
use Rattle.mls_follow.specs.MessageRules.{required_after}
use Rattle.mls_follow.specs.NextState.{Transition, committed, after_tree, commit_tree, with_list, after_commit, after_join}
use Rattle.mls_apply.specs.Transcript.{confirmed_hash, interim_hash}
use Rattle.mls_tree.specs.TreeHash.{tree_hash}

-- ---- the list of a commit

abbrev IsReadable : ListItem → Type 0
IsReadable x = valid_if_extensions x.proposal ≡ true

found_readable : (known : List KnownProposal) (reference : List ℕ) (x : ListItem) → AreReadable known → option_map item_of (find_known known reference) ≡ Some x → IsReadable x
found_readable [] reference x all e = absurd (none-some x e)
found_readable (k ∷ ks) reference x all e =
    go (bytes_eq k.reference reference) (λ f. found_readable ks reference x (All-tail (λ k. valid_if_extensions k.proposal ≡ true) k ks all) f) e
  where
    go : (b : Bool) → (option_map item_of (find_known ks reference) ≡ Some x → IsReadable x)
        → option_map item_of (if b then Some k else find_known ks reference) ≡ Some x → IsReadable x
    go true later e = subst IsReadable (same_Some (item_of k) x e) (All-head (λ k. valid_if_extensions k.proposal ≡ true) k ks all)
    go false later e = later e

both_true : (a b : Bool) → (a && b) ≡ true → (a ≡ true) × (b ≡ true)
both_true true b e = (refl, e)
both_true false b e = absurd (false≢true e)

item_readable : (committer : Sender) (known : List KnownProposal) (entry : ProposalOrRef) (x : ListItem) → AreReadable known → holds_if_by_value valid_if_extensions entry ≡ true
    → entry_item committer known entry ≡ Some x → IsReadable x
item_readable committer known (entries.Proposal p) x all h e = subst IsReadable (same_Some (record { sender = committer; proposal = p }) x e) h
item_readable committer known (entries.Reference reference) x all h e = found_readable known reference x all e

-- what an item brings, and the rest
brought_readable : (required : RequiredCapabilities) (x : ListItem) (rest : Option (List Rattle.mls_nodes.specs.declared.extension.Extension.Extension)) → IsReadable x
    → IsSome (required_after required rest) → IsSome (required_after required (first_some (extensions_of x.proposal) rest))
unfolding are_valid_extensions
brought_readable required x rest h later = go x.proposal h
  where
    go : (p : Proposal) → valid_if_extensions p ≡ true → IsSome (required_after required (first_some (extensions_of p) rest))
    go (Add k) h = later
    go (Update y) h = later
    go (Remove j) h = later
    go (ContextExtensions es) h = h
    go (PreSharedKey es) h = later
    go (ReInit es) h = later
    go (ExternalInit es) h = later

pub commit_readable : CommitsAreReadable
unfolding all_inline
commit_readable committer known [] items required all inline e = subst (λ (xs : List ListItem). IsSome (required_after required (proposed_extensions xs))) (same_Some [] items e) refl
commit_readable committer known (entry ∷ es) items required all inline e =
    let b = both_true (holds_if_by_value valid_if_extensions entry) (all_inline valid_if_extensions es) inline in
    go (entry_item committer known entry) (resolved committer known es)
    (λ x f. item_readable committer known entry x all b.0 f)
    (λ xs f. commit_readable committer known es xs required all b.1 f) e
  where
    go : (o : Option ListItem) (p : Option (List ListItem)) → ((x : ListItem) → o ≡ Some x → IsReadable x)
        → ((xs : List ListItem) → p ≡ Some xs → IsSome (required_after required (proposed_extensions xs)))
        → with_first o p ≡ Some items → IsSome (required_after required (proposed_extensions items))
    go None p one more e = absurd (none-some items e)
    go (Some x) None one more e = absurd (none-some items e)
    go (Some x) (Some xs) one more e =
        subst (λ (ys : List ListItem). IsSome (required_after required (proposed_extensions ys))) (same_Some (x ∷ xs) items e)
        (brought_readable required x (proposed_extensions xs) (one x refl) (more xs refl))

-- ---- the known proposals

-- a commit leaves none
tree-forgets : (u : State) (a : AuthenticatedParts) (t : Tree) (step : Transition) → after_tree u a t ≡ Some step → step.state.known ≡ []
tree-forgets u a t step e =
    option_and_then_some (λ hash.
    option_and_then (λ confirmed. option_map (committed u t hash confirmed) (interim_hash (hash_of u.context.cipher_suite) confirmed a.confirmation_tag))
    (confirmed_hash (hash_of u.context.cipher_suite) u.interim a))
    (tree_hash (hash_of u.context.cipher_suite) 0 t) step e
    (λ hash f g.
    option_and_then_some (λ confirmed. option_map (committed u t hash confirmed) (interim_hash (hash_of u.context.cipher_suite) confirmed a.confirmation_tag))
    (confirmed_hash (hash_of u.context.cipher_suite) u.interim a) step g
    (λ confirmed k l.
    (let w = came_from (committed u t hash confirmed) (interim_hash (hash_of u.context.cipher_suite) confirmed a.confirmation_tag) step l in
    sym (ap (λ (v : Transition). v.state.known) w.2))))

pub commit-forgets : (s : State) (a : AuthenticatedParts) (committer : Sender) (c : Commit) (items : Option (List ListItem)) (step : Transition)
    → after_commit s a committer c items ≡ Some step → step.state.known ≡ []
commit-forgets s a committer c items step e =
    option_and_then_some (after_tree (with_list s items) a) (commit_tree s committer c items) step e
    (λ t f g. tree-forgets (with_list s items) a t step g)

pub join-forgets : (s : State) (a : AuthenticatedParts) (content : Content) (step : Transition) → after_join s a content ≡ Some step → step.state.known ≡ []
join-forgets s a (contents.Application sent) step e = absurd (none-some step e)
join-forgets s a (contents.Proposal p) step e = absurd (none-some step e)
join-forgets s a (contents.Commit c) step e = commit-forgets s a senders.NewMemberCommit c (Some (join_items c.proposals)) step e

knows_none : (known : List KnownProposal) → known ≡ [] → AreReadable known
knows_none known none = subst AreReadable (sym none) (All-nil (λ k. valid_if_extensions k.proposal ≡ true))

-- ---- pending proposals

module _ (G : VerifyFn) where
  -- a proposal that satisfies its rules
  kept-readable : (context : GroupContext) (t : Tree) (sender : Sender) (p : Proposal) → AreKept (proposal_rules G context t sender p)
      → valid_if_extensions p ≡ true
  kept-readable context t sender p kept =
      let b = passed kept in
      let c = passed b.1 in
      let d = passed c.1 in
      (passed d.1).0

  held-readable : (s : State) (es : List AuthenticatedParts) (new : State) → AreReadable s.known → HoldEntries G s es new → AreReadable new.known
  held-readable s [] new all h = subst (λ (u : State). AreReadable u.known) (sym h) all
  held-readable s (a ∷ es) new all h =
      let one = accepted_proposal G s h.1.accepts.bytes h.1.accepts.reference h.0 h.1.accepts.accepted in
      held-readable h.0 es new
      (subst (λ (u : State). AreReadable u.known) (sym one.new_is)
      (All-push (λ k. valid_if_extensions k.proposal ≡ true) s.known one.pending all
      (kept-readable s.context s.tree one.pending.sender one.pending.proposal one.kept))) h.2

pub followers_readable : FollowersKnowReadable
followers_readable G first last calls initial run =
    held-readable G (record (bare_state last) { known = [] }) (pending_contents last) (bare_state last) (knows_none [] refl)
    (followers_resumable G first last calls initial run).held
