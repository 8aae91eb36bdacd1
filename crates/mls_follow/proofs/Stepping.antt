-- How an accepted message leads from a state to the next: it is known and changes nothing else, or a commit moves the tree.
use Rattle.std.proofs.Common.{◌≡◌, ◌∙◌, ◌++◌, ℕ, List, Bool, true, Option, Some, None, Result, Ok, Err, is_some, refl, ap, subst, inl, inr}
use Rattle.std.specs.Prelude.{◌⊎◌, option_map, option_and_then}
use Rattle.std.proofs.lemmas.Option.{none-some, option_and_then_some}
use Rattle.mls_nodes.specs.Requirements.{Requires, RequiresBy}
use Rattle.mls_nodes.specs.declared.extension.Extension.{Extension}
use Rattle.mls_nodes.specs.declared.leaf.LeafNode.{LeafNode}
use Rattle.mls_nodes.specs.declared.required_capabilities.RequiredCapabilities.{RequiredCapabilities}
use Rattle.mls_tree.specs.Tree.{Tree, leaf_at}
use Rattle.mls_tree.specs.TreeHash.{tree_hash}
use Rattle.mls_hash.specs.SuiteHash.{hash_of}
use Rattle.mls_check.specs.DistinctKeys.{has_distinct_keys}
use Rattle.mls_check.specs.LeafValidation.{LeavesAreValid, member_fault}
use Rattle.mls_check.specs.Signatures.{VerifyFn}
use Rattle.mls_check.specs.declared.members.MemberFault.{MemberFault}
use Rattle.mls_check.proofs.FirstFault.{members-faultless}
use Rattle.mls_msgs.specs.declared.authenticated.AuthenticatedParts.{AuthenticatedParts}
use Rattle.mls_msgs.specs.declared.commit.Commit.{Commit}
use Rattle.mls_msgs.specs.declared.commit.UpdatePath.{UpdatePath}
use Rattle.mls_msgs.specs.declared.framed_content.Content.{Content}
use Rattle.mls_msgs.specs.declared.framed_content.Content.TheVariants as contents
use Rattle.mls_msgs.specs.declared.framed_content.Sender.{Sender}
use Rattle.mls_msgs.specs.declared.framed_content.Sender.TheVariants as senders
use Rattle.mls_msgs.specs.declared.message.Message.{Message}
use Rattle.mls_msgs.specs.declared.message.Message.TheVariants as messages
use Rattle.mls_msgs.specs.declared.profile.Profile.{Profile}
use Rattle.mls_msgs.specs.declared.profile.Profile.TheVariants.{Members, Full}
use Rattle.mls_msgs.specs.declared.proposal.Proposal.{Proposal}
use Rattle.mls_apply.specs.declared.list_item.ListItem.{ListItem}
use Rattle.mls_apply.specs.declared.refusal.Refusal.{Refusal}
use Rattle.mls_apply.specs.ContextExtensions.{proposed_extensions, new_extensions}
use Rattle.mls_apply.specs.ResolvedList.{resolved}
use Rattle.mls_apply.specs.JoinRules.{path_of_join, join_items}
use Rattle.mls_apply.specs.ListRules.{list_rules, has_reinit}
use Rattle.mls_apply.specs.AppliedList.{AppliedTree, outcome}
use Rattle.mls_apply.specs.RuleLists.{first_failing}
use Rattle.mls_apply.proofs.Merging.{came_from}
use Rattle.mls_apply.proofs.RuleLists.{AreKept, passed, passed_both, refused}
use Rattle.mls_follow.specs.State.{State}
use Rattle.mls_apply.specs.Transcript.{confirmed_hash, interim_hash}
use Rattle.mls_follow.specs.MessageRules.{reference_of, inline_rules, member_rules, tree_rules, CommitterTree, committer_tree, resulting, changed_tree, path_rules_of, committer_tree_rules, applied_tree_rules, required_after, rules_with_requirements, proposal_list_rules, commit_rules, content_rules, leaf_rules, external_commit_rules, signed_commit_rules, joiner_rules, if_full, sender_rules, frame_rules, message_rules}
use Rattle.mls_apply.specs.PackageRefs.{added_references}
use Rattle.mls_follow.specs.NextState.{Transition, after_proposal, committed, after_tree, commit_tree, with_extensions, with_list, after_content, after_join, after_outside, after_sender, next}
use Rattle.mls_follow.specs.Acceptance.{IsAcceptable, IsNext}
use Rattle.mls_follow.specs.Runs.{IsTransition}
use Rattle.mls_follow.specs.declared.taken.Taken.{Taken}
use Rattle.mls_follow.specs.declared.taken.Taken.TheVariants as takens
use Rattle.mls_follow.proofs.Answering.{one_message}
use Rattle.mls_follow.proofs.Requiring.{required_after-requires}
use Rattle.mls_follow.proofs.StrictLists.{plain_kept}

-- the context, the tree and the strict rules stay
pub record Stays (s t : State) : Type 0 where
  pub context : t.context ≡ s.context
  pub tree : t.tree ≡ s.tree
  pub rules : t.rules ≡ s.rules

-- a commit moves the tree: by a list and a path, and the tree after both keeps the rules under what is then required
pub record Moves (G : VerifyFn) (s t : State) : Type 0 where
  pub rules : t.rules ≡ s.rules
  pub suite : t.context.cipher_suite ≡ s.context.cipher_suite
  pub group_id : t.context.group_id ≡ s.context.group_id
  pub required : RequiredCapabilities
  pub requires : Requires t.context required
  pub hashed : tree_hash (hash_of s.context.cipher_suite) 0 t.tree ≡ Some t.context.tree_hash
  pub tree_kept : AreKept (tree_rules G s required (Some t.tree))
  pub items : List ListItem
  pub applied_tree : AppliedTree
  pub made : outcome items s.tree ≡ Some applied_tree
  pub committer : Sender
  pub node_index : CommitterTree
  pub committer_tree_at : committer_tree committer applied_tree ≡ Some node_index
  pub path : Option UpdatePath
  pub path_kept : AreKept (path_rules_of (hash_of s.context.cipher_suite) node_index.applied_tree node_index.leaf path)
  pub merged : resulting (hash_of s.context.cipher_suite) node_index.applied_tree node_index.leaf path ≡ Some t.tree
  pub added : t.added ≡ Some (added_references items)

-- what was accepted is a commit
abbrev pub IsCommit : Taken → Type 0
IsCommit (takens.Commit _) = Unit {0}
IsCommit (takens.Proposal _) = ⊥

module _ (G : VerifyFn) (s : State) (required : RequiredCapabilities) (requires : Requires s.context required) where
  -- either of these, and only a commit moves
  abbrev Leads : Transition → Type 0
  Leads u = Stays s u.state ⊎ (Moves G s u.state × IsCommit u.taken)

  module _ (a : AuthenticatedParts) (committer : Sender) (c : Commit) (step : Transition) where
    -- after a commit with a list that has an outcome, whose committer has a leaf, under what the next context requires
    module _ (es : List Extension) (ended : Bool) (new : RequiredCapabilities) (by : RequiresBy es new) (items : List ListItem)
        (g : AppliedTree) (made : outcome items s.tree ≡ Some g) (q : CommitterTree) (at : committer_tree committer g ≡ Some q)
        (kept : AreKept (committer_tree_rules G s new c.path (Some q)))
        (t : Tree) (merged : resulting (hash_of s.context.cipher_suite) q.applied_tree q.leaf c.path ≡ Some t) where
      moved : (hash confirmed interim : List ℕ) → tree_hash (hash_of s.context.cipher_suite) 0 t ≡ Some hash
          → Moves G s (committed (with_extensions s es ended (added_references items)) t hash confirmed interim).state
      moved hash confirmed interim hashed =
          let k = passed_both (path_rules_of (hash_of s.context.cipher_suite) q.applied_tree q.leaf c.path) (tree_rules G s new (resulting (hash_of s.context.cipher_suite) q.applied_tree q.leaf c.path)) kept in
          record {
            rules = refl;
            suite = refl;
            group_id = refl;
            required = new;
            requires = by;
            hashed = hashed;
            tree_kept = subst (λ (o : Option Tree). AreKept (tree_rules G s new o)) merged k.1;
            items = items;
            applied_tree = g;
            made = made;
            committer = committer;
            node_index = q;
            committer_tree_at = at;
            path = c.path;
            path_kept = k.0;
            merged = merged;
            added = refl;
          }

      by_tree : after_tree (with_extensions s es ended (added_references items)) a t ≡ Some step → Leads step
      by_tree e =
          option_and_then_some (λ hash.
          option_and_then (λ confirmed. option_map (committed (with_extensions s es ended (added_references items)) t hash confirmed) (interim_hash (hash_of s.context.cipher_suite) confirmed a.confirmation_tag))
          (confirmed_hash (hash_of s.context.cipher_suite) s.interim a))
          (tree_hash (hash_of s.context.cipher_suite) 0 t) step e
          (λ hash f g.
          option_and_then_some (λ confirmed. option_map (committed (with_extensions s es ended (added_references items)) t hash confirmed) (interim_hash (hash_of s.context.cipher_suite) confirmed a.confirmation_tag))
          (confirmed_hash (hash_of s.context.cipher_suite) s.interim a) step g
          (λ confirmed k l.
          (let w = came_from (committed (with_extensions s es ended (added_references items)) t hash confirmed) (interim_hash (hash_of s.context.cipher_suite) confirmed a.confirmation_tag) step l in
          subst (λ (u : Transition). Leads u) w.2 (inr (moved hash confirmed w.0 f, tt)))))

    by_place : (es : List Extension) (ended : Bool) (new : RequiredCapabilities) → RequiresBy es new → (items : List ListItem)
        → (g : AppliedTree) → outcome items s.tree ≡ Some g → (p : Option CommitterTree) → committer_tree committer g ≡ p → AreKept (committer_tree_rules G s new c.path p) → (t : Tree)
        → option_and_then (λ q. resulting (hash_of s.context.cipher_suite) q.applied_tree q.leaf c.path) p ≡ Some t
        → after_tree (with_extensions s es ended (added_references items)) a t ≡ Some step → Leads step
    by_place es ended new by items g made None at kept t e f = absurd (refused kept)
    by_place es ended new by items g made (Some q) at kept t e f = by_tree es ended new by items g made q at kept t e f

    by_outcome : (es : List Extension) (ended : Bool) (new : RequiredCapabilities) → RequiresBy es new → (items : List ListItem)
        → (o : Option AppliedTree) → outcome items s.tree ≡ o → AreKept (applied_tree_rules G s new committer c.path o) → (t : Tree)
        → changed_tree (hash_of s.context.cipher_suite) committer c.path o ≡ Some t
        → after_tree (with_extensions s es ended (added_references items)) a t ≡ Some step → Leads step
    by_outcome es ended new by items None is kept t e f = absurd (refused kept)
    by_outcome es ended new by items (Some g) is kept t e f = by_place es ended new by items g is (committer_tree committer g) refl kept t e f

    by_terms : (items : List ListItem) (o : Option RequiredCapabilities) → required_after required (proposed_extensions items) ≡ o
        → AreKept (rules_with_requirements G s committer c.path (outcome items s.tree) o) → (t : Tree)
        → changed_tree (hash_of s.context.cipher_suite) committer c.path (outcome items s.tree) ≡ Some t
        → after_tree (with_list s (Some items)) a t ≡ Some step → Leads step
    by_terms items None is kept t e f = absurd (refused kept)
    by_terms items (Some new) is kept t e f =
        by_outcome (new_extensions s.context.extensions items) (has_reinit items) new (required_after-requires s.context required items requires new is) items (outcome items s.tree) refl kept t e f

  -- after a member's commit
  module _ (a : AuthenticatedParts) (i : ℕ) (c : Commit) (step : Transition) where
    by_items : (o : Option (List ListItem)) → AreKept (proposal_list_rules G s required i c o) → (t : Tree)
        → commit_tree s (senders.Member i) c o ≡ Some t
        → after_tree (with_list s o) a t ≡ Some step → Leads step
    by_items None kept t e f = absurd (refused kept)
    by_items (Some items) kept t e f =
        let of_list = list_rules (senders.Member i) items (is_some c.path) in
        let under = rules_with_requirements G s (senders.Member i) c.path (outcome items s.tree) (required_after required (proposed_extensions items)) in
        by_terms a (senders.Member i) c step items (required_after required (proposed_extensions items)) refl (passed_both of_list under (passed_both (inline_rules G s i c) (of_list ++ under) kept).1).1 t e f

    by_commit : AreKept (commit_rules G s required i c) → after_content s a i (contents.Commit c) ≡ Some step → Leads step
    by_commit kept e =
        option_and_then_some (after_tree (with_list s (resolved (senders.Member i) s.known c.proposals)) a)
        (commit_tree s (senders.Member i) c (resolved (senders.Member i) s.known c.proposals)) step e
        (λ t f g. by_items (resolved (senders.Member i) s.known c.proposals) (passed kept).1 t f g)

  -- after an external commit
  module _ (a : AuthenticatedParts) (c : Commit) (step : Transition) where
    by_external : AreKept (external_commit_rules G s required c) → after_join s a (contents.Commit c) ≡ Some step → Leads step
    by_external kept e =
        let items = join_items c.proposals in
        let of_list = path_of_join s.context s.tree c.proposals c.path in
        let under = rules_with_requirements G s senders.NewMemberCommit c.path (outcome items s.tree) (required_after required (proposed_extensions items)) in
        option_and_then_some (after_tree (with_list s (Some items)) a) (commit_tree s senders.NewMemberCommit c (Some items)) step e
        (λ t f g.
        by_terms a senders.NewMemberCommit c step items (required_after required (proposed_extensions items)) refl (passed_both of_list under (passed kept).1).1 t f g)

    by_path : (o : Option UpdatePath) → AreKept (signed_commit_rules G s required a c o) → after_join s a (contents.Commit c) ≡ Some step → Leads step
    by_path None kept e = absurd (refused kept)
    by_path (Some path) kept e = by_external (passed kept).1 e

  by_proposal : (a : AuthenticatedParts) (sender : Sender) (p : Proposal) (o : Option (List ℕ)) (step : Transition)
      → option_map (after_proposal s a sender p) o ≡ Some step → Leads step
  by_proposal a sender p o step e =
      let w = came_from (after_proposal s a sender p) o step e in
      let still : Stays s (after_proposal s a sender p w.0).state = record { context = refl; tree = refl; rules = refl } in
      subst (λ (u : Transition). Leads u) w.2 (inl still)

  module _ (a : AuthenticatedParts) (step : Transition) where
    by_content : (i : ℕ) (x : LeafNode) (content : Content) → AreKept (content_rules G s required a i x content) → after_content s a i content ≡ Some step → Leads step
    by_content i x (contents.Application sent) kept e = absurd (refused kept)
    by_content i x (contents.Proposal p) kept e = by_proposal a (senders.Member i) p (reference_of s.context a) step e
    by_content i x (contents.Commit c) kept e = by_commit a i c step (passed kept).1 e

    by_leaf : (i : ℕ) (o : Option LeafNode) → AreKept (leaf_rules G s required a i o) → after_content s a i a.content.content ≡ Some step → Leads step
    by_leaf i None kept e = absurd (refused kept)
    by_leaf i (Some x) kept e = by_content i x a.content.content kept e

    -- a sender outside the group proposes only
    by_outside : (sender : Sender) (content : Content) → after_outside s a sender content ≡ Some step → Leads step
    by_outside sender (contents.Application sent) e = absurd (none-some step e)
    by_outside sender (contents.Proposal p) e = by_proposal a sender p (reference_of s.context a) step e
    by_outside sender (contents.Commit c) e = absurd (none-some step e)

    -- a client that joins commits only
    by_join : (content : Content) → AreKept (joiner_rules G s required a content) → after_join s a content ≡ Some step → Leads step
    by_join (contents.Application sent) kept e = absurd (refused kept)
    by_join (contents.Proposal p) kept e = absurd (refused kept)
    by_join (contents.Commit c) kept e = by_path a c step c.path kept e

    by_joiner : (profile : Profile) → AreKept (if_full profile (joiner_rules G s required a a.content.content)) → after_join s a a.content.content ≡ Some step
        → Leads step
    by_joiner Members kept e = absurd (refused kept)
    by_joiner Full kept e = by_join a.content.content kept e

    by_sender : (sender : Sender) → AreKept (sender_rules G s required a sender) → after_sender s a sender ≡ Some step → Leads step
    by_sender (senders.Member i) kept e = by_leaf i (leaf_at 0 s.tree i) kept e
    by_sender (senders.External j) kept e = by_outside (senders.External j) a.content.content e
    by_sender senders.NewMemberProposal kept e = by_outside senders.NewMemberProposal a.content.content e
    by_sender senders.NewMemberCommit kept e = by_joiner s.profile kept e

    by_frame : AreKept (frame_rules G s required a) → after_sender s a a.content.sender ≡ Some step → Leads step
    by_frame kept e = by_sender a.content.sender (passed (passed (passed kept).1).1).1 e

  pub stays_or_commits : (m : Message) (step : Transition) → first_failing (message_rules G s required m) ≡ None → next s m ≡ Some step
      → Stays s step.state ⊎ (Moves G s step.state × IsCommit step.taken)
  stays_or_commits (messages.Public p) step kept e = by_frame p.auth step (record { none = kept }) e
  stays_or_commits (messages.Unread w b) step kept e = absurd (none-some step e)
  stays_or_commits (messages.GroupInfo g) step kept e = absurd (none-some step e)
  stays_or_commits (messages.KeyPackage k) step kept e = absurd (none-some step e)

  pub stays_or_moves : (m : Message) (step : Transition) → first_failing (message_rules G s required m) ≡ None → next s m ≡ Some step
      → Stays s step.state ⊎ Moves G s step.state
  stays_or_moves m step kept e =
      elim (stays_or_commits m step kept e) [
        | inl stays ↦ inl stays
        | inr moves ↦ inr moves.0
      ]

-- whatever is answered to some bytes
pub taken : (G : VerifyFn) (s : State) (bytes : List ℕ) (answer : Result Taken Refusal) (new : State) → IsTransition G s bytes answer new → Stays s new ⊎ Moves G s new
taken G s bytes (Ok t) new h =
    let a : IsAcceptable G s bytes = h.0 in
    let n : IsNext s bytes (record { taken = t; state = new }) = h.1 in
    stays_or_moves G s a.required a.requires a.message (record { taken = t; state = new }) (plain_kept G s a.required a.message a.rules_hold)
    (ap (next s) (one_message a.message n.message bytes a.encoded n.encoded) ∙ n.after)
taken G s bytes (Err e) new h = inl (record { context = ap (λ (t : State). t.context) h.0; tree = ap (λ (t : State). t.tree) h.0; rules = ap (λ (t : State). t.rules) h.0 })

-- ---- of the tree that a commit moved to

pub no_fault : (o : Option MemberFault) → AreKept (member_rules o) → o ≡ None
no_fault None h = refl
no_fault (Some f) h = absurd (refused h)

module _ (G : VerifyFn) (s t : State) (m : Moves G s t) where
  pub moved_keys : has_distinct_keys t.tree ≡ true
  moved_keys = (passed m.tree_kept).0

  pub moved_members : LeavesAreValid G t.context.cipher_suite t.context.group_id m.required t.tree
  moved_members =
      rw (m.suite, m.group_id)
      ((members-faultless G s.context.cipher_suite s.context.group_id m.required t.tree).1
      (no_fault (member_fault G s.context.cipher_suite s.context.group_id m.required t.tree) (passed m.tree_kept).1))
