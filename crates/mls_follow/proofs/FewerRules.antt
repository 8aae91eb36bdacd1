-- Fewer strict rules refuse less.
use Rattle.std.proofs.Common.{◌≡◌, ◌∙◌, ℕ, ◌≤◌, List, [], ◌∷◌, ◌++◌, Bool, true, false, Option, Some, None, option_map, refl, sym, ap, subst, inl, inr, arith}
use Rattle.std.specs.Prelude.{map, nat_le, nat_lt, is_some, option_and_then, ◌==◌, ◌&&◌, ◌||◌, not, if◌then◌else◌}
use Rattle.std.specs.List.{list_all}
use Rattle.std.specs.Str.{bytes_eq}
use Rattle.std.proofs.lemmas.Bool.{false≢true}
use Rattle.std.proofs.lemmas.Bool.Decides.{nat_tests}
use Rattle.std.proofs.lemmas.Option.{none-some, same_Some}
use Rattle.mls_nodes.specs.declared.leaf.LeafNode.{LeafNode}
use Rattle.mls_nodes.specs.declared.required_capabilities.RequiredCapabilities.{RequiredCapabilities}
use Rattle.mls_tree.specs.Tree.{Tree, leaf_at}
use Rattle.mls_tree.specs.TreeHash.{tree_hash}
use Rattle.mls_hash.specs.SuiteHash.{hash_of}
use Rattle.mls_check.specs.Signatures.{VerifyFn}
use Rattle.mls_msgs.specs.Rules.{has_rule, plain_rules}
use Rattle.mls_msgs.specs.StrictRules.{strict_number}
use Rattle.mls_msgs.specs.declared.authenticated.AuthenticatedParts.{AuthenticatedParts}
use Rattle.mls_msgs.specs.declared.commit.Commit.{Commit}
use Rattle.mls_msgs.specs.declared.commit.UpdatePath.{UpdatePath}
use Rattle.mls_msgs.specs.declared.framed_content.Content.{Content}
use Rattle.mls_msgs.specs.declared.framed_content.Content.TheVariants as contents
use Rattle.mls_msgs.specs.declared.framed_content.Sender.{Sender}
use Rattle.mls_msgs.specs.declared.framed_content.Sender.TheVariants as senders
use Rattle.mls_msgs.specs.declared.message.Message.{Message}
use Rattle.mls_msgs.specs.declared.message.Message.TheVariants as messages
use Rattle.mls_msgs.specs.declared.proposal.Proposal.{Proposal}
use Rattle.mls_msgs.specs.declared.public_message.PublicParts.{PublicParts}
use Rattle.mls_msgs.specs.declared.rules.Rules.{Rules}
use Rattle.mls_msgs.specs.declared.strict_rule.StrictRule.{StrictRule}
use Rattle.mls_msgs.specs.declared.strict_rule.StrictRule.TheVariants as rules
use Rattle.mls_msgs.proofs.RuleSets.{has_rule-plain}
use Rattle.mls_strict.specs.ContentForms.{first_unmet}
use Rattle.mls_signatures.specs.SigningKeys.{may_propose, outside_key}
use Rattle.mls_apply.specs.AppliedList.{AppliedTree, outcome}
use Rattle.mls_apply.specs.ContextExtensions.{proposed_extensions}
use Rattle.mls_apply.specs.JoinRules.{join_items, path_of_join}
use Rattle.mls_apply.specs.ListRules.{list_rules}
use Rattle.mls_apply.specs.Refusals.{number_of}
use Rattle.mls_apply.specs.ResolvedList.{resolved}
use Rattle.mls_apply.specs.RuleLists.{Rule, rule, first_failing}
use Rattle.mls_apply.specs.Transcript.{confirmed_hash, interim_hash}
use Rattle.mls_apply.specs.declared.list_item.ListItem.{ListItem}
use Rattle.mls_apply.specs.declared.refusal.Refusal.{Refusal}
use Rattle.mls_apply.specs.declared.refusal.Refusal.TheVariants as refusals
use Rattle.mls_apply.proofs.RuleLists.{first_failing-left, first_failing-right}
use Rattle.mls_follow.specs.Acceptance.{IsAcceptable, IsNext, IsFirstRefusal}
use Rattle.mls_follow.specs.MessageRules.{CommitterTree, commit_rules, committer_tree, committer_tree_rules, external_commit_rules, frame_rules, handshake_rules, if_full, inline_rules, is_frame_signed, is_known_external, is_new_proposal, joiner_rules, leaf_rules, message_rules, outside_content_rules, outside_rules, path_rules_of, proposal_list_rules, proposal_message_rules, reference_of, required_after, resulting, rules_with_requirements, sender_rules, signed_commit_rules, signed_proposal_rules, signed_rules, tree_rules}
use Rattle.mls_follow.specs.NextState.{Transition, after_commit, after_content, after_join, after_outside, after_proposal, after_sender, after_tree, commit_tree, committed, next, with_list}
use Rattle.mls_follow.specs.RisingRuns.{AcceptsAll}
use Rattle.mls_follow.specs.State.{State, last_epoch}
use Rattle.mls_follow.specs.StrictRules.{all_rules, last_strict_rules, message_strict_rules, strict_meets, strict_rule, strict_rules, support_rules, supports_after, supports_next}
use Rattle.mls_follow.specs.StrictRuns.{FewerAccept, FewerAcceptAll, FewerRefuseAlike, FewerStepAlike, Includes, LeastFailedRefuses, MoreRefuse, NextKeepsRules, PlainRefusalsStay, StrictIsPlain, first_failed, is_strict, judged_strict_rules, public_meets, step_with_rules, with_rules}
use Rattle.mls_follow.specs.declared.taken.Taken.{Taken}
use Rattle.mls_follow.specs.declared.taken.Taken.TheVariants as takens
use Rattle.mls_follow.proofs.StrictLists.{plain_kept}

-- ---- the rules of the profile don't depend on the set, nor on whom the last commit added

module _ (G : VerifyFn) (s : State) (asked : Rules) (added : Option (List (List ℕ))) where
  abbrev t : State
  t = record s { rules = asked; added = added }

  offers_alike : (a : AuthenticatedParts) (sender : Sender) (p : Proposal) → proposal_message_rules G t a sender p ≡ proposal_message_rules G s a sender p
  unfolding is_new_proposal
  offers_alike a sender p = refl

  trees_alike : (required : RequiredCapabilities) (o : Option Tree) → tree_rules G t required o ≡ tree_rules G s required o
  trees_alike required None = refl
  trees_alike required (Some u) = refl

  committers_alike : (required : RequiredCapabilities) (path : Option UpdatePath) (q : Option CommitterTree)
      → committer_tree_rules G t required path q ≡ committer_tree_rules G s required path q
  committers_alike required path None = refl
  committers_alike required path (Some q) =
      ap (λ (rs : List (Rule Refusal)). path_rules_of (hash_of s.context.cipher_suite) q.applied_tree q.leaf path ++ rs)
      (trees_alike required (resulting (hash_of s.context.cipher_suite) q.applied_tree q.leaf path))

  outcomes_alike : (committer : Sender) (path : Option UpdatePath) (o : Option AppliedTree) (required : Option RequiredCapabilities)
      → rules_with_requirements G t committer path o required ≡ rules_with_requirements G s committer path o required
  outcomes_alike committer path o None = refl
  outcomes_alike committer path o (Some required) = committers_alike required path (option_and_then (committer_tree committer) o)

  module _ (required : RequiredCapabilities) where
    lists_alike : (i : ℕ) (c : Commit) (items : Option (List ListItem)) → proposal_list_rules G t required i c items ≡ proposal_list_rules G s required i c items
    lists_alike i c None = refl
    lists_alike i c (Some items) =
        ap (λ (rs : List (Rule Refusal)). inline_rules G s i c ++ (list_rules (senders.Member i) items (is_some c.path) ++ rs))
        (outcomes_alike (senders.Member i) c.path (outcome items s.tree) (required_after required (proposed_extensions items)))

    commits_alike : (i : ℕ) (c : Commit) → commit_rules G t required i c ≡ commit_rules G s required i c
    commits_alike i c =
        ap (λ (rs : List (Rule Refusal)). rule refusals.LastEpoch (nat_lt s.context.epoch last_epoch) ∷ rs)
        (lists_alike i c (resolved (senders.Member i) s.known c.proposals))

    module _ (a : AuthenticatedParts) where
      handshakes_alike : (i : ℕ) (c : Content) → handshake_rules G t required a i c ≡ handshake_rules G s required a i c
      handshakes_alike i (contents.Application _) = refl
      handshakes_alike i (contents.Proposal p) = ap Some (offers_alike a (senders.Member i) p)
      handshakes_alike i (contents.Commit c) = ap Some (commits_alike i c)

      leaves_alike : (i : ℕ) (o : Option LeafNode) → leaf_rules G t required a i o ≡ leaf_rules G s required a i o
      leaves_alike i None = refl
      leaves_alike i (Some x) = ap (signed_rules G s.context x.signature_key a) (handshakes_alike i a.content.content)

      keys_alike : (sender : Sender) (p : Proposal) (key : Option (List ℕ)) → signed_proposal_rules G t a sender p key ≡ signed_proposal_rules G s a sender p key
      keys_alike sender p None = refl
      keys_alike sender p (Some key) =
          ap (λ (rs : List (Rule Refusal)). rule refusals.BadSignature (is_frame_signed G s.context key a) ∷ rs) (offers_alike a sender p)

      outside_contents_alike : (sender : Sender) (key : Option (List ℕ)) (c : Content) → outside_content_rules G t a sender key c ≡ outside_content_rules G s a sender key c
      outside_contents_alike sender key (contents.Application _) = refl
      outside_contents_alike sender key (contents.Proposal p) =
          ap (λ (rs : List (Rule Refusal)). rule refusals.SenderContent (may_propose sender p) ∷ rs) (keys_alike sender p key)
      outside_contents_alike sender key (contents.Commit _) = refl

      outsides_alike : (sender : Sender) → outside_rules G t a sender ≡ outside_rules G s a sender
      outsides_alike sender =
          ap (λ (rs : List (Rule Refusal)). rule refusals.UnknownExternal (is_known_external s.context.extensions sender) ∷ rs)
          (outside_contents_alike sender (outside_key s.context sender a.content.content) a.content.content)

      joins_alike : (c : Commit) → external_commit_rules G t required c ≡ external_commit_rules G s required c
      joins_alike c =
          ap (λ (rs : List (Rule Refusal)). rule refusals.LastEpoch (nat_lt s.context.epoch last_epoch) ∷ (path_of_join s.context s.tree c.proposals c.path ++ rs))
          (outcomes_alike senders.NewMemberCommit c.path (outcome (join_items c.proposals) s.tree) (required_after required (proposed_extensions (join_items c.proposals))))

      signed_alike : (c : Commit) (path : Option UpdatePath) → signed_commit_rules G t required a c path ≡ signed_commit_rules G s required a c path
      signed_alike c None = refl
      signed_alike c (Some path) =
          ap (λ (rs : List (Rule Refusal)). rule refusals.BadSignature (is_frame_signed G s.context path.leaf_node.signature_key a) ∷ rs) (joins_alike c)

      joiners_alike : (c : Content) → joiner_rules G t required a c ≡ joiner_rules G s required a c
      joiners_alike (contents.Application _) = refl
      joiners_alike (contents.Proposal _) = refl
      joiners_alike (contents.Commit c) = signed_alike c c.path

      senders_alike : (sender : Sender) → sender_rules G t required a sender ≡ sender_rules G s required a sender
      senders_alike (senders.Member i) = leaves_alike i (leaf_at 0 s.tree i)
      senders_alike (senders.External k) = ap (if_full s.profile) (outsides_alike (senders.External k))
      senders_alike senders.NewMemberProposal = ap (if_full s.profile) (outsides_alike senders.NewMemberProposal)
      senders_alike senders.NewMemberCommit = ap (if_full s.profile) (joiners_alike a.content.content)

      frames_alike : frame_rules G t required a ≡ frame_rules G s required a
      frames_alike =
          ap (λ (rs : List (Rule Refusal)). rule refusals.WrongGroup (bytes_eq a.content.group_id s.context.group_id)
          ∷ rule refusals.WrongEpoch (a.content.epoch == s.context.epoch) ∷ rule refusals.GroupOver (not s.ended) ∷ rs)
          (senders_alike a.content.sender)

    pub messages_alike : (m : Message) → message_rules G t required m ≡ message_rules G s required m
    messages_alike (messages.Public p) = frames_alike p.auth
    messages_alike (messages.Unread _ _) = refl
    messages_alike (messages.GroupInfo _) = refl
    messages_alike (messages.KeyPackage _) = refl

-- ---- nor does the next state, but for the set

module _ (s : State) (asked : Rules) where
  proposed_alike : (a : AuthenticatedParts) (sender : Sender) (p : Proposal) (o : Option (List ℕ))
      → option_map (after_proposal (with_rules s asked) a sender p) o ≡ option_map (step_with_rules asked) (option_map (after_proposal s a sender p) o)
  proposed_alike a sender p None = refl
  proposed_alike a sender p (Some reference) = refl

  module _ (a : AuthenticatedParts) where
    interims_alike : (u : Tree) (hash confirmed : List ℕ) (o : Option (List ℕ))
        → option_map (committed (with_rules s asked) u hash confirmed) o ≡ option_map (step_with_rules asked) (option_map (committed s u hash confirmed) o)
    interims_alike u hash confirmed None = refl
    interims_alike u hash confirmed (Some interim) = refl

    confirmed_alike : (u : Tree) (hash : List ℕ) (o : Option (List ℕ))
        → option_and_then (λ confirmed. option_map (committed (with_rules s asked) u hash confirmed) (interim_hash (hash_of s.context.cipher_suite) confirmed a.confirmation_tag)) o
        ≡ option_map (step_with_rules asked) (option_and_then (λ confirmed. option_map (committed s u hash confirmed) (interim_hash (hash_of s.context.cipher_suite) confirmed a.confirmation_tag)) o)
    confirmed_alike u hash None = refl
    confirmed_alike u hash (Some confirmed) = interims_alike u hash confirmed (interim_hash (hash_of s.context.cipher_suite) confirmed a.confirmation_tag)

    hashed_alike : (u : Tree) (o : Option (List ℕ))
        → option_and_then (λ hash. option_and_then (λ confirmed. option_map (committed (with_rules s asked) u hash confirmed) (interim_hash (hash_of s.context.cipher_suite) confirmed a.confirmation_tag)) (confirmed_hash (hash_of s.context.cipher_suite) s.interim a)) o
        ≡ option_map (step_with_rules asked) (option_and_then (λ hash. option_and_then (λ confirmed. option_map (committed s u hash confirmed) (interim_hash (hash_of s.context.cipher_suite) confirmed a.confirmation_tag)) (confirmed_hash (hash_of s.context.cipher_suite) s.interim a)) o)
    hashed_alike u None = refl
    hashed_alike u (Some hash) = confirmed_alike u hash (confirmed_hash (hash_of s.context.cipher_suite) s.interim a)

    after_trees_alike : (o : Option Tree) → option_and_then (after_tree (with_rules s asked) a) o ≡ option_map (step_with_rules asked) (option_and_then (after_tree s a) o)
    after_trees_alike None = refl
    after_trees_alike (Some u) = hashed_alike u (tree_hash (hash_of s.context.cipher_suite) 0 u)

module _ (s : State) (asked : Rules) (a : AuthenticatedParts) where
  committed_alike : (committer : Sender) (c : Commit) (items : Option (List ListItem))
      → after_commit (with_rules s asked) a committer c items ≡ option_map (step_with_rules asked) (after_commit s a committer c items)
  committed_alike committer c items = after_trees_alike (with_list s items) asked a (commit_tree s committer c items)

  contents_alike : (i : ℕ) (c : Content) → after_content (with_rules s asked) a i c ≡ option_map (step_with_rules asked) (after_content s a i c)
  contents_alike i (contents.Application _) = refl
  contents_alike i (contents.Proposal p) = proposed_alike s asked a (senders.Member i) p (reference_of s.context a)
  contents_alike i (contents.Commit c) = committed_alike (senders.Member i) c (resolved (senders.Member i) s.known c.proposals)

  joined_alike : (c : Content) → after_join (with_rules s asked) a c ≡ option_map (step_with_rules asked) (after_join s a c)
  joined_alike (contents.Application _) = refl
  joined_alike (contents.Proposal _) = refl
  joined_alike (contents.Commit c) = committed_alike senders.NewMemberCommit c (Some (join_items c.proposals))

  sent_alike : (sender : Sender) (c : Content) → after_outside (with_rules s asked) a sender c ≡ option_map (step_with_rules asked) (after_outside s a sender c)
  sent_alike sender (contents.Application _) = refl
  sent_alike sender (contents.Proposal p) = proposed_alike s asked a sender p (reference_of s.context a)
  sent_alike sender (contents.Commit _) = refl

  after_alike : (sender : Sender) → after_sender (with_rules s asked) a sender ≡ option_map (step_with_rules asked) (after_sender s a sender)
  after_alike (senders.Member i) = contents_alike i a.content.content
  after_alike (senders.External k) = sent_alike (senders.External k) a.content.content
  after_alike senders.NewMemberProposal = sent_alike senders.NewMemberProposal a.content.content
  after_alike senders.NewMemberCommit = joined_alike a.content.content

pub next_keeps : NextKeepsRules
next_keeps s asked (messages.Public p) = after_alike s asked p.auth p.auth.content.sender
next_keeps s asked (messages.Unread _ _) = refl
next_keeps s asked (messages.GroupInfo _) = refl
next_keeps s asked (messages.KeyPackage _) = refl

-- so 51 asks the same
support_same : (asked : Rules) (o : Option Transition) → supports_next (option_map (step_with_rules asked) o) ≡ supports_next o
support_same asked None = refl
support_same asked (Some step) = by_taken step.taken
  where
    by_taken : (x : Taken) → supports_after x (with_rules step.state asked) ≡ supports_after x step.state
    by_taken (takens.Proposal _) = refl
    by_taken (takens.Commit _) = refl

-- the rule is one about the message by itself
abbrev is_of_message : StrictRule → Bool
is_of_message rules.GroupExtensionUnsupported = false
is_of_message r = true

-- its number is not greater
abbrev is_below : StrictRule → StrictRule → Bool
is_below r q = nat_le (strict_number r) (strict_number q)

abbrev is_increasing : List StrictRule → Bool
is_increasing [] = true
is_increasing (r ∷ rs) = list_all (is_below r) rs && is_increasing rs

below_at : (r q : StrictRule) → is_below r q ≡ true → strict_number r ≤ strict_number q
below_at r q e = grind (arith, nat_tests)

and_left : (a b : Bool) → (a && b) ≡ true → a ≡ true
and_left true b e = refl
and_left false b e = absurd (false≢true e)

and_right : (a b : Bool) → (a && b) ≡ true → b ≡ true
and_right true b e = e
and_right false b e = absurd (false≢true e)

-- ---- the strict rules are a list of which the set has some

module _ (s : State) (asked : Rules) (p : PublicParts) where
  abbrev Unmet : List StrictRule → Option StrictRule
  Unmet rs = first_unmet asked (public_meets s p) rs

  -- 51, and what comes after it
  support_first : (qs : List (Rule Refusal)) (ws : List StrictRule) → first_failing qs ≡ option_map refusals.Strict (Unmet ws)
      → first_failing (support_rules asked (supports_next (next (with_rules s asked) (messages.Public p))) ++ qs)
      ≡ option_map refusals.Strict (Unmet (rules.GroupExtensionUnsupported ∷ ws))
  support_first qs ws last =
      ap (λ (b : Bool). first_failing (support_rules asked b ++ qs)) (ap supports_next (next_keeps s asked (messages.Public p)) ∙ support_same asked (next s (messages.Public p)))
      ∙ go (not (has_rule asked (strict_number rules.GroupExtensionUnsupported)) || supports_next (next s (messages.Public p)))
    where
      go : (b : Bool) → first_failing (rule (refusals.Strict rules.GroupExtensionUnsupported) b ∷ qs)
          ≡ option_map refusals.Strict (if b then Unmet ws else Some rules.GroupExtensionUnsupported)
      go true = last
      go false = refl

  -- the rules of a list that are about the message by itself
  by_list : (rs : List StrictRule) (qs : List (Rule Refusal)) (ws : List StrictRule) → list_all is_of_message rs ≡ true
      → first_failing qs ≡ option_map refusals.Strict (Unmet ws)
      → first_failing (map (strict_rule (with_rules s asked) p) rs ++ qs) ≡ option_map refusals.Strict (Unmet (rs ++ ws))
  by_list [] qs ws own last = last
  by_list (r ∷ rs) qs ws own last =
      go (not (has_rule asked (strict_number r)) || strict_meets s r p) (not (has_rule asked (strict_number r)) || public_meets s p r)
      (ap (λ (b : Bool). not (has_rule asked (strict_number r)) || b) (sym (meets_alike r (and_left (is_of_message r) (list_all is_of_message rs) own))))
      (by_list rs qs ws (and_right (is_of_message r) (list_all is_of_message rs) own) last)
    where
      go : (b c : Bool) → b ≡ c → first_failing (map (strict_rule (with_rules s asked) p) rs ++ qs) ≡ option_map refusals.Strict (Unmet (rs ++ ws))
          → (if b then first_failing (map (strict_rule (with_rules s asked) p) rs ++ qs) else Some (refusals.Strict r))
          ≡ option_map refusals.Strict (if c then Unmet (rs ++ ws) else Some r)
      go true true e later = later
      go false false e later = refl
      go true false e later = absurd cc
      go false true e later = absurd cc

      meets_alike : (q : StrictRule) → is_of_message q ≡ true → public_meets s p q ≡ strict_meets s q p
      meets_alike rules.TagLength e = refl
      meets_alike rules.ExtensionRepeated e = refl
      meets_alike rules.ExtensionMisplaced e = refl
      meets_alike rules.ExtensionUnreadable e = refl
      meets_alike rules.KeyForm e = refl
      meets_alike rules.CiphertextForm e = refl
      meets_alike rules.GroupUnlisted e = refl
      meets_alike rules.DefaultListed e = refl
      meets_alike rules.LifetimeEmpty e = refl
      meets_alike rules.CertificateKey e = refl
      meets_alike rules.PskAhead e = refl
      meets_alike rules.GroupExtensionUnsupported e = absurd (false≢true e)
      meets_alike rules.PointOffCurve e = refl

  strict_alike : first_failing (strict_rules (with_rules s asked) (messages.Public p)) ≡ option_map refusals.Strict (first_failed asked s (messages.Public p))
  strict_alike =
      let last = map (strict_rule (with_rules s asked) p) last_strict_rules in
      by_list message_strict_rules (support_rules asked (supports_next (next (with_rules s asked) (messages.Public p))) ++ last)
      (rules.GroupExtensionUnsupported ∷ last_strict_rules) refl (support_first last last_strict_rules (by_list last_strict_rules [] [] refl refl))

strict_failed : (s : State) (asked : Rules) (m : Message)
    → first_failing (strict_rules (with_rules s asked) m) ≡ option_map refusals.Strict (first_failed asked s m)
strict_failed s asked (messages.Public p) = strict_alike s asked p
strict_failed s asked (messages.Unread _ _) = refl
strict_failed s asked (messages.GroupInfo _) = refl
strict_failed s asked (messages.KeyPackage _) = refl

-- ---- which strict rule of a set refuses

module _ (asked more : Rules) (includes : Includes more asked) (meets : StrictRule → Bool) where
  -- one step
  none_step : (a b c : Bool) (r : StrictRule) (x y : Option StrictRule) → (a ≡ true → b ≡ true) → (x ≡ None → y ≡ None)
      → (if not b || c then x else Some r) ≡ None → (if not a || c then y else Some r) ≡ None
  none_step false false c r x y inc later h = later h
  none_step false true true r x y inc later h = later h
  none_step false true false r x y inc later h = absurd (none-some r (sym h))
  none_step true true true r x y inc later h = later h
  none_step true true false r x y inc later h = absurd (none-some r (sym h))
  none_step true false c r x y inc later h = absurd (false≢true (inc refl))

  fewer_none : (rs : List StrictRule) → first_unmet more meets rs ≡ None → first_unmet asked meets rs ≡ None
  fewer_none [] h = refl
  fewer_none (r ∷ rs) h =
      none_step (has_rule asked (strict_number r)) (has_rule more (strict_number r)) (meets r) r (first_unmet more meets rs) (first_unmet asked meets rs)
      (includes (strict_number r)) (fewer_none rs) h

  same_step : (a b c : Bool) (r q : StrictRule) (x y : Option StrictRule) → (a ≡ true → b ≡ true) → (r ≡ q → a ≡ true) → (x ≡ Some q → y ≡ Some q)
      → (if not b || c then x else Some r) ≡ Some q → (if not a || c then y else Some r) ≡ Some q
  same_step false false c r q x y inc own later h = later h
  same_step false true true r q x y inc own later h = later h
  same_step false true false r q x y inc own later h = absurd (false≢true (own (same_Some r q h)))
  same_step true true true r q x y inc own later h = later h
  same_step true true false r q x y inc own later h = h
  same_step true false c r q x y inc own later h = absurd (false≢true (inc refl))

  -- a rule that both sets have
  fewer_same : (rs : List StrictRule) (q : StrictRule) → has_rule asked (strict_number q) ≡ true → first_unmet more meets rs ≡ Some q → first_unmet asked meets rs ≡ Some q
  fewer_same [] q has h = absurd (none-some q h)
  fewer_same (r ∷ rs) q has h =
      same_step (has_rule asked (strict_number r)) (has_rule more (strict_number r)) (meets r) r q (first_unmet more meets rs) (first_unmet asked meets rs)
      (includes (strict_number r)) (λ same. ap (λ (x : StrictRule). has_rule asked (strict_number x)) same ∙ has) (fewer_same rs q has) h

  abbrev Earlier : List StrictRule → StrictRule → Type 0
  Earlier rs q = (w : StrictRule) × (first_unmet more meets rs ≡ Some w) × (strict_number w ≤ strict_number q)

  more_step : (a b c : Bool) (r q : StrictRule) (x y : Option StrictRule) → (a ≡ true → b ≡ true) → (y ≡ Some q → strict_number r ≤ strict_number q)
      → (y ≡ Some q → (w : StrictRule) × (x ≡ Some w) × (strict_number w ≤ strict_number q))
      → (if not a || c then y else Some r) ≡ Some q
      → (w : StrictRule) × ((if not b || c then x else Some r) ≡ Some w) × (strict_number w ≤ strict_number q)
  more_step false false c r q x y inc least later h = later h
  more_step false true true r q x y inc least later h = later h
  more_step false true false r q x y inc least later h = (r, refl, least h)
  more_step true true true r q x y inc least later h = later h
  more_step true true false r q x y inc least later h = let e = same_Some r q h in (r, refl, subst (λ (w : StrictRule). strict_number r ≤ strict_number w) e (omega arith))
  more_step true false c r q x y inc least later h = absurd (false≢true (inc refl))

  found_step : (b : Bool) (r q : StrictRule) (y : Option StrictRule) (P : StrictRule → Bool) → P r ≡ true → (y ≡ Some q → P q ≡ true)
      → (if b then y else Some r) ≡ Some q → P q ≡ true
  found_step true r q y P here later h = later h
  found_step false r q y P here later h = subst (λ (w : StrictRule). P w ≡ true) (same_Some r q h) here

  -- what holds of each rule of a list holds of the first that is not met
  found : (P : StrictRule → Bool) (rs : List StrictRule) (q : StrictRule) → list_all P rs ≡ true → first_unmet asked meets rs ≡ Some q → P q ≡ true
  found P [] q all h = absurd (none-some q h)
  found P (r ∷ rs) q all h =
      found_step (not (has_rule asked (strict_number r)) || meets r) r q (first_unmet asked meets rs) P (and_left (P r) (list_all P rs) all)
      (found P rs q (and_right (P r) (list_all P rs) all)) h

  -- with more rules one is found that is not greater
  more_found : (rs : List StrictRule) (q : StrictRule) → is_increasing rs ≡ true → first_unmet asked meets rs ≡ Some q → Earlier rs q
  more_found [] q sorted h = absurd (none-some q h)
  more_found (r ∷ rs) q sorted h =
      let first = and_left (list_all (is_below r) rs) (is_increasing rs) sorted in
      let rest = and_right (list_all (is_below r) rs) (is_increasing rs) sorted in
      more_step (has_rule asked (strict_number r)) (has_rule more (strict_number r)) (meets r) r q (first_unmet more meets rs) (first_unmet asked meets rs)
      (includes (strict_number r)) (λ e. below_at r q (found (is_below r) rs q first e)) (more_found rs q rest) h

-- ---- of a message

module _ (G : VerifyFn) (s : State) (required : RequiredCapabilities) where
  plain_same : (asked : Rules) (m : Message) → first_failing (message_rules G (with_rules s asked) required m) ≡ first_failing (message_rules G s required m)
  plain_same asked m = ap first_failing (messages_alike G s asked s.added required m)

  least_failed : (asked : Rules) (m : Message) → first_failing (message_rules G s required m) ≡ None
      → first_failing (all_rules G (with_rules s asked) required m) ≡ option_map refusals.Strict (first_failed asked s m)
  least_failed asked m kept =
      first_failing-right (message_rules G (with_rules s asked) required m) (strict_rules (with_rules s asked) m) (plain_same asked m ∙ kept)
      ∙ strict_failed s asked m

  plain_stays : (asked : Rules) (m : Message) (e : Refusal) → first_failing (message_rules G s required m) ≡ Some e
      → first_failing (all_rules G (with_rules s asked) required m) ≡ Some e
  plain_stays asked m e fails =
      first_failing-left (message_rules G (with_rules s asked) required m) (strict_rules (with_rules s asked) m) e (plain_same asked m ∙ fails)

  -- the rules of the profile are kept where all are
  pub plain_kept_by : (asked : Rules) (m : Message) → first_failing (all_rules G (with_rules s asked) required m) ≡ None → first_failing (message_rules G s required m) ≡ None
  plain_kept_by asked m h = sym (plain_same asked m) ∙ plain_kept G (with_rules s asked) required m h

pub no_plain_rule : (meets : StrictRule → Bool) (rs : List StrictRule) → first_unmet plain_rules meets rs ≡ None
no_plain_rule meets [] = refl
no_plain_rule meets (r ∷ rs) = rw (has_rule-plain (strict_number r)) (no_plain_rule meets rs)

none_failed : (s : State) (m : Message) → first_failed plain_rules s m ≡ None
none_failed s (messages.Public p) = no_plain_rule (public_meets s p) judged_strict_rules
none_failed s (messages.Unread _ _) = refl
none_failed s (messages.GroupInfo _) = refl
none_failed s (messages.KeyPackage _) = refl

pub strict_plain : StrictIsPlain
strict_plain G s required m = go (first_failing (message_rules G s required m)) refl
  where
    go : (o : Option Refusal) → first_failing (message_rules G s required m) ≡ o
        → first_failing (all_rules G (with_rules s plain_rules) required m) ≡ first_failing (message_rules G s required m)
    go None e = least_failed G s required plain_rules m e ∙ ap (option_map refusals.Strict) (none_failed s m) ∙ sym e
    go (Some f) e = plain_stays G s required plain_rules m f e ∙ sym e

pub plain_refusals_stay : PlainRefusalsStay
plain_refusals_stay G s asked required m e h = plain_stays G s required asked m e h

pub least_refuses : LeastFailedRefuses
least_refuses G s asked required m h = least_failed G s required asked m h

-- ---- of bytes

module _ (G : VerifyFn) (s : State) (asked more : Rules) (includes : Includes more asked) where
  -- what is met with more rules is met with fewer
  fewer_kept : (required : RequiredCapabilities) (m : Message) → first_failing (all_rules G (with_rules s more) required m) ≡ None
      → first_failing (all_rules G (with_rules s asked) required m) ≡ None
  fewer_kept required m h =
      let plain = plain_kept_by G s required more m h in
      let none : option_map refusals.Strict (first_failed more s m) ≡ None = sym (least_failed G s required more m plain) ∙ h in
      least_failed G s required asked m plain ∙ by_message m none
    where
      empty : (o : Option StrictRule) → option_map refusals.Strict o ≡ None → o ≡ None
      empty None e = refl
      empty (Some r) e = absurd (none-some (refusals.Strict r) (sym e))

      by_message : (n : Message) → option_map refusals.Strict (first_failed more s n) ≡ None → option_map refusals.Strict (first_failed asked s n) ≡ None
      by_message (messages.Public p) e =
          ap (option_map refusals.Strict) (fewer_none asked more includes (public_meets s p) judged_strict_rules (empty (first_failed more s (messages.Public p)) e))
      by_message (messages.Unread _ _) e = refl
      by_message (messages.GroupInfo _) e = refl
      by_message (messages.KeyPackage _) e = refl

  fewer_acceptable : (bytes : List ℕ) → IsAcceptable G (with_rules s more) bytes → IsAcceptable G (with_rules s asked) bytes
  fewer_acceptable bytes h = record {
    message = h.message;
    encoded = record { encoded = h.encoded.encoded; allowed = h.encoded.allowed; bounded = h.encoded.bounded };
    required = h.required;
    requires = h.requires;
    rules_hold = fewer_kept h.required h.message h.rules_hold;
  }

pub fewer_accept : FewerAccept
fewer_accept G s asked more bytes includes h = fewer_acceptable G s asked more includes bytes h

pub fewer_step_alike : FewerStepAlike
fewer_step_alike s asked more bytes step h = record {
  message = h.message;
  encoded = record { encoded = h.encoded.encoded; allowed = h.encoded.allowed; bounded = h.encoded.bounded };
  after = next_keeps s asked h.message ∙ by_step (next s h.message) (sym (next_keeps s more h.message) ∙ h.after);
}
  where
    by_step : (o : Option Transition) → option_map (step_with_rules more) o ≡ Some step → option_map (step_with_rules asked) o ≡ Some (step_with_rules asked step)
    by_step None e = absurd (none-some step e)
    by_step (Some x) e = ap (λ (y : Transition). Some (step_with_rules asked y)) (same_Some (step_with_rules more x) step e)

-- a step keeps the set
keeps : (s : State) (more : Rules) (bytes : List ℕ) (step : Transition) → IsNext (with_rules s more) bytes step → with_rules step.state more ≡ step.state
keeps s more bytes step h = by_step (next s h.message) (sym (next_keeps s more h.message) ∙ h.after)
  where
    by_step : (o : Option Transition) → option_map (step_with_rules more) o ≡ Some step → with_rules step.state more ≡ step.state
    by_step None e = absurd (none-some step e)
    by_step (Some x) e =
        let same : step_with_rules more x ≡ step = same_Some (step_with_rules more x) step e in
        subst (λ (y : Transition). with_rules y.state more ≡ y.state) same refl

-- ---- of refusals

module _ (G : VerifyFn) (s : State) (asked more : Rules) (includes : Includes more asked) where
  -- how the refusal by one set is related to that by the other
  abbrev LaterOf : Message → RequiredCapabilities → Refusal → Type 0
  LaterOf m required e =
      (f : Refusal) × (first_failing (all_rules G (with_rules s more) required m) ≡ Some f) × (is_strict f ≡ is_strict e)
      × (is_strict e ≡ false → f ≡ e) × (number_of f ≤ number_of e)

  strict_later : (m : Message) (required : RequiredCapabilities) (e : Refusal) → first_failing (message_rules G s required m) ≡ None
      → option_map refusals.Strict (first_failed asked s m) ≡ Some e → LaterOf m required e
  strict_later (messages.Public p) required e plain h = by_first (first_failed asked s (messages.Public p)) refl h
    where
      by_first : (o : Option StrictRule) → first_failed asked s (messages.Public p) ≡ o → option_map refusals.Strict o ≡ Some e → LaterOf (messages.Public p) required e
      by_first None first h = absurd (none-some e h)
      by_first (Some q) first h =
          let same : refusals.Strict q ≡ e = same_Some (refusals.Strict q) e h in
          let w = more_found asked more includes (public_meets s p) judged_strict_rules q refl first in
          subst (LaterOf (messages.Public p) required) same (
            refusals.Strict w.0,
            least_failed G s required more (messages.Public p) plain ∙ ap (option_map refusals.Strict) w.1,
            refl,
            (λ bad. absurd (false≢true (sym bad))),
            w.2,
          )
  strict_later (messages.Unread _ _) required e plain h = absurd (none-some e h)
  strict_later (messages.GroupInfo _) required e plain h = absurd (none-some e h)
  strict_later (messages.KeyPackage _) required e plain h = absurd (none-some e h)

  later : (m : Message) (required : RequiredCapabilities) (e : Refusal) → first_failing (all_rules G (with_rules s asked) required m) ≡ Some e → LaterOf m required e
  later m required e h = by_plain (first_failing (message_rules G s required m)) refl
    where
      by_plain : (o : Option Refusal) → first_failing (message_rules G s required m) ≡ o → LaterOf m required e
      by_plain None plain = strict_later m required e plain (sym (least_failed G s required asked m plain) ∙ h)
      by_plain (Some f) plain =
          let same : f ≡ e = same_Some f e (sym (plain_stays G s required asked m f plain) ∙ h) in
          (e, plain_stays G s required more m e (plain ∙ ap Some same), refl, (λ _. refl), omega arith)

  more_refusal : (bytes : List ℕ) (e : Refusal) → IsFirstRefusal G (with_rules s asked) bytes e
      → (f : Refusal) × IsFirstRefusal G (with_rules s more) bytes f × (is_strict f ≡ is_strict e)
      × (is_strict e ≡ false → f ≡ e) × (number_of f ≤ number_of e)
  more_refusal bytes e (inl none) =
      (e, inl (none.0, λ m h. none.1 m (record { encoded = h.encoded; allowed = h.allowed; bounded = h.bounded })), refl, (λ _. refl), omega arith)
  more_refusal bytes e (inr h) =
      let l = later h.message h.required e h.fails in (
        l.0,
        inr (record {
          message = h.message;
          encoded = record { encoded = h.encoded.encoded; allowed = h.encoded.allowed; bounded = h.encoded.bounded };
          required = h.required;
          requires = h.requires;
          fails = l.1;
        }),
        l.2,
        l.3,
        l.4,
      )

  module _ (r : StrictRule) (has : has_rule asked (strict_number r) ≡ true) where
    not_plain : (m : Message) (required : RequiredCapabilities) → first_failing (all_rules G (with_rules s more) required m) ≡ Some (refusals.Strict r)
        → (f : Refusal) → first_failing (message_rules G s required m) ≡ Some f → f ≡ refusals.Strict r
    not_plain m required h f plain = same_Some f (refusals.Strict r) (sym (plain_stays G s required more m f plain) ∙ h)

    one_first : (o : Option StrictRule) → option_map refusals.Strict o ≡ Some (refusals.Strict r) → o ≡ Some r
    one_first None h = absurd (none-some (refusals.Strict r) h)
    one_first (Some q) h = ap Some (one_rule q r (same_Some (refusals.Strict q) (refusals.Strict r) h))
      where
        one_rule : (x y : StrictRule) → ◌≡◌ {A = Refusal} (refusals.Strict x) (refusals.Strict y) → x ≡ y
        one_rule x y e = cc

    alike : (m : Message) (required : RequiredCapabilities) → first_failing (all_rules G (with_rules s more) required m) ≡ Some (refusals.Strict r)
        → first_failing (all_rules G (with_rules s asked) required m) ≡ Some (refusals.Strict r)
    alike m required h = by_plain (first_failing (message_rules G s required m)) refl
      where
        by_message : (n : Message) → option_map refusals.Strict (first_failed more s n) ≡ Some (refusals.Strict r)
            → option_map refusals.Strict (first_failed asked s n) ≡ Some (refusals.Strict r)
        by_message (messages.Public p) e =
            ap (option_map refusals.Strict)
            (fewer_same asked more includes (public_meets s p) judged_strict_rules r has (one_first (first_failed more s (messages.Public p)) e))
        by_message (messages.Unread _ _) e = absurd (none-some (refusals.Strict r) e)
        by_message (messages.GroupInfo _) e = absurd (none-some (refusals.Strict r) e)
        by_message (messages.KeyPackage _) e = absurd (none-some (refusals.Strict r) e)

        by_plain : (o : Option Refusal) → first_failing (message_rules G s required m) ≡ o → first_failing (all_rules G (with_rules s asked) required m) ≡ Some (refusals.Strict r)
        by_plain None plain = least_failed G s required asked m plain ∙ by_message m (sym (least_failed G s required more m plain) ∙ h)
        by_plain (Some f) plain = plain_stays G s required asked m (refusals.Strict r) (plain ∙ ap Some (not_plain m required h f plain))

    alike_refusal : (bytes : List ℕ) → IsFirstRefusal G (with_rules s more) bytes (refusals.Strict r) → IsFirstRefusal G (with_rules s asked) bytes (refusals.Strict r)
    alike_refusal bytes (inl none) = absurd (let e = none.0 in cc)
    alike_refusal bytes (inr h) =
        inr (record {
          message = h.message;
          encoded = record { encoded = h.encoded.encoded; allowed = h.encoded.allowed; bounded = h.encoded.bounded };
          required = h.required;
          requires = h.requires;
          fails = alike h.message h.required h.fails;
        })

pub more_refuse : MoreRefuse
more_refuse G s asked more bytes e includes h = more_refusal G s asked more includes bytes e h

pub fewer_refuse_alike : FewerRefuseAlike
fewer_refuse_alike G s asked more bytes r includes has h = alike_refusal G s asked more includes r has bytes h

-- ---- one message after the other

accept_all : (G : VerifyFn) (asked more : Rules) → Includes more asked → (s : State) (list : List (List ℕ)) (new : State)
    → AcceptsAll G (with_rules s more) list (with_rules new more) → AcceptsAll G (with_rules s asked) list (with_rules new asked)
accept_all G asked more includes s [] new h = ap (λ (x : State). with_rules x asked) h
accept_all G asked more includes s (bytes ∷ list) new h =
    let step = h.0 in
    let n : IsNext (with_rules s more) bytes step = h.2 in
    let still : with_rules step.state more ≡ step.state = keeps s more bytes step n in (
      step_with_rules asked step,
      fewer_acceptable G s asked more includes bytes h.1,
      fewer_step_alike s asked more bytes step n,
      accept_all G asked more includes step.state list new
          (subst (λ (x : State). AcceptsAll G x list (with_rules new more)) (sym still) h.3),
    )

pub fewer_accept_all : FewerAcceptAll
fewer_accept_all G s new asked more list includes h = accept_all G asked more includes s list new h
