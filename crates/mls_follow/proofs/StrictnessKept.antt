-- The context, the tree and the pending proposals of a follower meet its strict rules after every message.
use Rattle.std.proofs.Common.{◌≡◌, ◌∙◌, ◌⊎◌, ℕ, ◌+◌, List, [], ◌∷◌, ◌++◌, map, Bool, true, false, Option, Some, None, Result, Ok, Err, refl, sym, ap, subst, inl, inr}
use Rattle.std.specs.Prelude.{if◌then◌else◌, ◌&&◌, ◌||◌, not, All, unwrap_or, option_map, option_and_then}
use Rattle.std.specs.List.{list_all}
use Rattle.std.specs.Str.{bytes_eq}
use Rattle.std.proofs.lemmas.Bool.{false≢true}
use Rattle.std.proofs.lemmas.List.Elements.{All-nil, All-cons, All-head, All-tail, All-weaker}
use Rattle.std.proofs.lemmas.Option.{none-some, same_Some, option_and_then_some}
use Rattle.mls_nodes.specs.NodeModel.{NodeValue, leaf_node, parent_node}
use Rattle.mls_nodes.specs.declared.context.GroupContext.{GroupContext}
use Rattle.mls_nodes.specs.declared.extension.Extension.{Extension}
use Rattle.mls_nodes.specs.declared.leaf.LeafNode.{LeafNode}
use Rattle.mls_nodes.specs.declared.parent.ParentNode.{ParentNode}
use Rattle.mls_nodes.specs.declared.required_capabilities.RequiredCapabilities.{RequiredCapabilities}
use Rattle.mls_tree.specs.Tree.{Tree, leaf, branch, leaf_count}
use Rattle.mls_tree.specs.TreeHash.{tree_hash}
use Rattle.mls_hash.specs.SuiteHash.{hash_of}
use Rattle.mls_check.specs.LeafValidation.{all_leaves}
use Rattle.mls_check.specs.Signatures.{VerifyFn}
use Rattle.mls_check.proofs.Elements.{and-left, and-right}
use Rattle.mls_msgs.specs.Rules.{has_rule, plain_rules}
use Rattle.mls_msgs.proofs.RuleSets.{has_rule-plain}
use Rattle.mls_follow.proofs.FewerRules.{no_plain_rule}
use Rattle.mls_msgs.specs.StrictRules.{strict_number}
use Rattle.mls_msgs.specs.declared.authenticated.AuthenticatedParts.{AuthenticatedParts}
use Rattle.mls_msgs.specs.declared.commit.Commit.{Commit}
use Rattle.mls_msgs.specs.declared.commit.PathNode.{PathNode}
use Rattle.mls_msgs.specs.declared.commit.UpdatePath.{UpdatePath}
use Rattle.mls_msgs.specs.declared.framed_content.Content.{Content}
use Rattle.mls_msgs.specs.declared.framed_content.Content.TheVariants as contents
use Rattle.mls_msgs.specs.declared.framed_content.Sender.{Sender}
use Rattle.mls_msgs.specs.declared.framed_content.Sender.TheVariants as senders
use Rattle.mls_msgs.specs.declared.key_package.KeyPackage.{KeyPackage}
use Rattle.mls_msgs.specs.declared.message.Message.{Message}
use Rattle.mls_msgs.specs.declared.message.Message.TheVariants as messages
use Rattle.mls_msgs.specs.declared.proposal.Proposal.{Proposal}
use Rattle.mls_msgs.specs.declared.proposal.Proposal.TheVariants as proposals
use Rattle.mls_msgs.specs.declared.proposal.ProposalOrRef.{ProposalOrRef}
use Rattle.mls_msgs.specs.declared.proposal.ProposalOrRef.TheVariants as entries
use Rattle.mls_msgs.specs.declared.public_message.PublicParts.{PublicParts}
use Rattle.mls_msgs.specs.declared.rules.Rules.{Rules}
use Rattle.mls_msgs.specs.declared.strict_rule.StrictRule.{StrictRule}
use Rattle.mls_msgs.specs.declared.strict_rule.StrictRule.TheVariants as rules
use Rattle.mls_strict.specs.ContentForms.{ciphertext_meets, content_meets, content_refusal, content_rules, entry_meets, extensions_meet, first_unmet, node_meets, package_meets, path_meets, proposal_meets, proposal_refusal}
use Rattle.mls_strict.specs.ExtensionLists.{has_each_once}
use Rattle.mls_strict.specs.KeyForms.{is_hpke_key, is_suite_point}
use Rattle.mls_strict.specs.LeafForms.{leaf_meets, supports_all}
use Rattle.mls_strict.specs.StrictTrees.{IsStrict, Meets, tree_node_meets}
use Rattle.mls_apply.specs.AppliedList.{outcome}
use Rattle.mls_apply.specs.ContextExtensions.{first_some, new_extensions, proposed_extensions, extensions_of}
use Rattle.mls_apply.specs.JoinRules.{join_items, joiner_item}
use Rattle.mls_apply.specs.ResolvedList.{entry_item, find_known, item_of, resolved, with_first}
use Rattle.mls_apply.specs.RuleLists.{first_failing}
use Rattle.mls_apply.specs.Transcript.{confirmed_hash, interim_hash}
use Rattle.mls_apply.specs.declared.list_item.KnownProposal.{KnownProposal}
use Rattle.mls_apply.specs.declared.list_item.ListItem.{ListItem}
use Rattle.mls_apply.specs.declared.refusal.Refusal.{Refusal}
use Rattle.mls_apply.specs.declared.refusal.Refusal.TheVariants.{Strict}
use Rattle.mls_apply.proofs.Merging.{came_from}
use Rattle.mls_follow.specs.Acceptance.{IsAcceptable, IsNext}
use Rattle.mls_follow.specs.AddedRules.{AreKnownStrict, HasAddedRules}
use Rattle.mls_follow.specs.MessageRules.{changed_tree, reference_of}
use Rattle.mls_follow.specs.NextState.{Transition, after_commit, after_content, after_join, after_outside, after_proposal, pending_proposal, after_sender, after_tree, commit_tree, committed, next, with_list}
use Rattle.mls_follow.specs.Runs.{Call, IsRun, IsTransition}
use Rattle.mls_follow.proofs.Stepping.{taken}
use Rattle.mls_follow.specs.State.{State}
use Rattle.mls_follow.specs.StrictRules.{all_rules, support_rules, supports_after, supports_extensions, supports_next, tag_meets}
use Rattle.mls_follow.specs.StrictRulesInternal.{comes_last, or_then, support_refusal, unmet_rule}
use Rattle.mls_follow.specs.StrictnessKept.{IsStrictState, StartsAreStrict, RunsKeepStrictness, RunsKeepRules, FollowersAreStrict, AddedRulesKeepStrictness}
use Rattle.mls_follow.specs.declared.taken.Taken.{Taken}
use Rattle.mls_follow.proofs.Answering.{one_message}
use Rattle.mls_follow.proofs.StrictLists.{strict_kept, strict_word, tags_unmet, content_unmet}
use Rattle.mls_follow.proofs.StrictNodes.{AreGood, OfNode, BringsGood, BringGood, IsGoodPath, good-from_nodes, nodes-from_good, changed-good}
use Rattle.mls_follow.proofs.Supporting.{accepted_supports}

-- ---- lists of rules that are met

-- M of each rule of a list
abbrev Each : (StrictRule → Type 0) → List StrictRule → Type 0
Each M [] = Unit {0}
Each M (r ∷ rs) = M r × Each M rs

-- a rule that is asked is met
abbrev IsMet : Rules → (StrictRule → Bool) → StrictRule → Type 0
IsMet asked meets r = has_rule asked (strict_number r) ≡ true → meets r ≡ true

first_met : (a b : Bool) (r : StrictRule) (o : Option StrictRule) → (if not a || b then o else Some r) ≡ None → (a ≡ true → b ≡ true) × (o ≡ None)
first_met true true r o e = (λ h. refl, e)
first_met true false r o e = absurd (none-some r (sym e))
first_met false b r o e = (λ h. absurd (false≢true h), e)

first_unmet-none : (a b : Bool) (r : StrictRule) (o : Option StrictRule) → (a ≡ true → b ≡ true) → o ≡ None → (if not a || b then o else Some r) ≡ None
first_unmet-none true true r o h e = e
first_unmet-none true false r o h e = absurd (false≢true (h refl))
first_unmet-none false b r o h e = e

each_met : (asked : Rules) (meets : StrictRule → Bool) (rs : List StrictRule) → first_unmet asked meets rs ≡ None → Each (IsMet asked meets) rs
each_met asked meets [] e = tt
each_met asked meets (r ∷ rs) e =
    let p = first_met (has_rule asked (strict_number r)) (meets r) r (first_unmet asked meets rs) e in
    (p.0, each_met asked meets rs p.1)

none_unmet : (asked : Rules) (meets : StrictRule → Bool) (rs : List StrictRule) → Each (IsMet asked meets) rs → first_unmet asked meets rs ≡ None
none_unmet asked meets [] h = refl
none_unmet asked meets (r ∷ rs) h =
    first_unmet-none (has_rule asked (strict_number r)) (meets r) r (first_unmet asked meets rs) h.0 (none_unmet asked meets rs h.1)

-- ---- the rules of which a tree keeps what a message meets

abbrev IsOfNodes : StrictRule → Type 0
IsOfNodes rules.ExtensionRepeated = Unit {0}
IsOfNodes rules.ExtensionMisplaced = Unit {0}
IsOfNodes rules.ExtensionUnreadable = Unit {0}
IsOfNodes rules.KeyForm = Unit {0}
IsOfNodes rules.GroupUnlisted = Unit {0}
IsOfNodes rules.DefaultListed = Unit {0}
IsOfNodes rules.LifetimeEmpty = Unit {0}
IsOfNodes rules.CertificateKey = Unit {0}
IsOfNodes rules.PointOffCurve = Unit {0}
IsOfNodes r = ⊥

met_of : (asked : Rules) (meets : StrictRule → Bool) → first_unmet asked meets content_rules ≡ None → (r : StrictRule) → IsOfNodes r
    → has_rule asked (strict_number r) ≡ true → meets r ≡ true
met_of asked meets none r of = go r of (each_met asked meets content_rules none)
  where
    go : (r : StrictRule) → IsOfNodes r → Each (IsMet asked meets) content_rules → IsMet asked meets r
    go rules.ExtensionRepeated of all = all.0
    go rules.ExtensionMisplaced of all = all.1.0
    go rules.ExtensionUnreadable of all = all.1.1.0
    go rules.KeyForm of all = all.1.1.1.0
    go rules.GroupUnlisted of all = all.1.1.1.1.1.0
    go rules.DefaultListed of all = all.1.1.1.1.1.1.0
    go rules.LifetimeEmpty of all = all.1.1.1.1.1.1.1.0
    go rules.CertificateKey of all = all.1.1.1.1.1.1.1.1.0
    go rules.PointOffCurve of all = all.1.1.1.1.1.1.1.1.1.1.0
    go r of all = absurd of

-- what is demanded of a key of a parent
abbrev key_meets : ℕ → StrictRule → List ℕ → Bool
key_meets suite rules.KeyForm key = is_hpke_key suite key
key_meets suite rules.PointOffCurve key = is_suite_point suite key
key_meets suite r key = true

leaf_alike : (context : GroupContext) (r : StrictRule) (x : LeafNode) → IsOfNodes r
    → tree_node_meets context r (leaf_node x) ≡ leaf_meets context.version context.cipher_suite r x
leaf_alike context rules.GroupExtensionUnsupported x of = absurd of
leaf_alike context r x of = refl

parent_alike : (context : GroupContext) (r : StrictRule) (p : ParentNode) → tree_node_meets context r (parent_node p) ≡ key_meets context.cipher_suite r p.encryption_key
parent_alike context rules.KeyForm p = refl
parent_alike context rules.PointOffCurve p = refl
parent_alike context r p = refl

-- a path node that meets the rule has such a key
key_met : (suite : ℕ) (r : StrictRule) (n : PathNode) → IsOfNodes r → node_meets suite r n ≡ true → key_meets suite r n.encryption_key ≡ true
key_met suite rules.KeyForm n of h = h
key_met suite rules.CiphertextForm n of h = absurd of
key_met suite rules.PointOffCurve n of h =
    and-left (is_suite_point suite n.encryption_key) (list_all (ciphertext_meets suite rules.PointOffCurve) n.ciphertexts) h
key_met suite r n of h = refl

package_leaf : (version suite : ℕ) (r : StrictRule) (k : KeyPackage) → package_meets version suite r k ≡ true → leaf_meets version suite r k.leaf_node ≡ true
package_leaf version suite rules.ExtensionRepeated k h = and-right (has_each_once k.extensions) (leaf_meets version suite rules.ExtensionRepeated k.leaf_node) h
package_leaf version suite rules.KeyForm k h = and-right (is_hpke_key suite k.init_key) (leaf_meets version suite rules.KeyForm k.leaf_node) h
package_leaf version suite rules.PointOffCurve k h = and-right (is_suite_point suite k.init_key) (leaf_meets version suite rules.PointOffCurve k.leaf_node) h
package_leaf version suite r k h = h

-- of one of these rules, in a group with this version and suite
module _ (context : GroupContext) (r : StrictRule) (of : IsOfNodes r) where
  abbrev OfLeafNode : LeafNode → Type 0
  OfLeafNode x = leaf_meets context.version context.cipher_suite r x ≡ true

  abbrev OfKey : List ℕ → Type 0
  OfKey key = key_meets context.cipher_suite r key ≡ true

  abbrev AreNodes : Tree → Type 0
  AreNodes t = AreGood OfLeafNode OfKey t

  to_node : (n : NodeValue) → tree_node_meets context r n ≡ true → OfNode OfLeafNode OfKey n
  to_node (leaf_node x) h = sym (leaf_alike context r x of) ∙ h
  to_node (parent_node p) h = sym (parent_alike context r p) ∙ h

  from_node : (n : NodeValue) → OfNode OfLeafNode OfKey n → tree_node_meets context r n ≡ true
  from_node (leaf_node x) h = leaf_alike context r x of ∙ h
  from_node (parent_node p) h = parent_alike context r p ∙ h

  met_nodes : (t : Tree) → Meets context t r → AreNodes t
  met_nodes t h = good-from_nodes OfLeafNode OfKey t (λ p n e. to_node n (h.nodes p n e))

  -- ---- a proposal list

  abbrev AreItems : List ListItem → Type 0
  AreItems items = All (λ (x : ListItem). proposal_meets context r x.proposal ≡ true) items

  brought : (p : Proposal) → proposal_meets context r p ≡ true → BringsGood OfLeafNode OfKey p
  brought (proposals.Add k) h = package_leaf context.version context.cipher_suite r k h
  brought (proposals.Update x) h = h
  brought (proposals.Remove i) h = tt
  brought (proposals.ContextExtensions es) h = tt
  brought (proposals.PreSharedKey id) h = tt
  brought (proposals.ReInit reinit) h = tt
  brought (proposals.ExternalInit output) h = tt

  items_bring : (items : List ListItem) → AreItems items → BringGood OfLeafNode OfKey items
  items_bring items all =
      All-weaker (λ (x : ListItem). proposal_meets context r x.proposal ≡ true) (λ (x : ListItem). BringsGood OfLeafNode OfKey x.proposal)
      (λ x h. brought x.proposal h) items all

  -- the extensions that it proposes, else those before it
  proposed : (p : Proposal) (rest : Option (List Extension)) (es : List Extension) → proposal_meets context r p ≡ true
      → (rest ≡ Some es → extensions_meet r es ≡ true) → first_some (extensions_of p) rest ≡ Some es → extensions_meet r es ≡ true
  proposed (proposals.Add k) rest es h later e = later e
  proposed (proposals.Update x) rest es h later e = later e
  proposed (proposals.Remove i) rest es h later e = later e
  proposed (proposals.ContextExtensions own) rest es h later e = subst (λ (xs : List Extension). extensions_meet r xs ≡ true) (same_Some own es e) h
  proposed (proposals.PreSharedKey id) rest es h later e = later e
  proposed (proposals.ReInit reinit) rest es h later e = later e
  proposed (proposals.ExternalInit output) rest es h later e = later e

  all_proposed : (items : List ListItem) (es : List Extension) → AreItems items → proposed_extensions items ≡ Some es → extensions_meet r es ≡ true
  all_proposed [] es all e = absurd (none-some es e)
  all_proposed (x ∷ xs) es all e =
      proposed x.proposal (proposed_extensions xs) es (All-head (λ (y : ListItem). proposal_meets context r y.proposal ≡ true) x xs all)
      (λ f. all_proposed xs es (All-tail (λ (y : ListItem). proposal_meets context r y.proposal ≡ true) x xs all) f) e

  extensions_kept : (present : List Extension) (items : List ListItem) → AreItems items → extensions_meet r present ≡ true
      → extensions_meet r (new_extensions present items) ≡ true
  extensions_kept present items all h = go (proposed_extensions items) refl
    where
      go : (o : Option (List Extension)) → proposed_extensions items ≡ o → extensions_meet r (unwrap_or o present) ≡ true
      go None e = h
      go (Some es) e = all_proposed items es all e

  -- ---- where its items come from

  abbrev AreKnown : List KnownProposal → Type 0
  AreKnown known = All (λ (k : KnownProposal). proposal_meets context r k.proposal ≡ true) known

  found : (known : List KnownProposal) (reference : List ℕ) (x : ListItem) → AreKnown known → option_map item_of (find_known known reference) ≡ Some x
      → proposal_meets context r x.proposal ≡ true
  found [] reference x all e = absurd (none-some x e)
  found (k ∷ ks) reference x all e =
      go (bytes_eq k.reference reference) (λ f. found ks reference x (All-tail (λ (y : KnownProposal). proposal_meets context r y.proposal ≡ true) k ks all) f) e
    where
      go : (b : Bool) → (option_map item_of (find_known ks reference) ≡ Some x → proposal_meets context r x.proposal ≡ true)
          → option_map item_of (if b then Some k else find_known ks reference) ≡ Some x → proposal_meets context r x.proposal ≡ true
      go true later e =
          subst (λ (y : ListItem). proposal_meets context r y.proposal ≡ true) (same_Some (item_of k) x e)
          (All-head (λ (y : KnownProposal). proposal_meets context r y.proposal ≡ true) k ks all)
      go false later e = later e

  one_item : (committer : Sender) (known : List KnownProposal) (entry : ProposalOrRef) (x : ListItem) → AreKnown known → entry_meets context r entry ≡ true
      → entry_item committer known entry ≡ Some x → proposal_meets context r x.proposal ≡ true
  one_item committer known (entries.Proposal p) x all h e =
      subst (λ (y : ListItem). proposal_meets context r y.proposal ≡ true) (same_Some (record { sender = committer; proposal = p }) x e) h
  one_item committer known (entries.Reference reference) x all h e = found known reference x all e

  resolved_items : (committer : Sender) (known : List KnownProposal) (es : List ProposalOrRef) (items : List ListItem) → AreKnown known
      → list_all (entry_meets context r) es ≡ true → resolved committer known es ≡ Some items → AreItems items
  resolved_items committer known [] items all h e = subst AreItems (same_Some [] items e) (All-nil (λ (x : ListItem). proposal_meets context r x.proposal ≡ true))
  resolved_items committer known (entry ∷ es) items all h e =
      go (entry_item committer known entry) (resolved committer known es)
      (λ x f. one_item committer known entry x all (and-left (entry_meets context r entry) (list_all (entry_meets context r) es) h) f)
      (λ xs f. resolved_items committer known es xs all (and-right (entry_meets context r entry) (list_all (entry_meets context r) es) h) f) e
    where
      go : (o : Option ListItem) (p : Option (List ListItem)) → ((x : ListItem) → o ≡ Some x → proposal_meets context r x.proposal ≡ true)
          → ((xs : List ListItem) → p ≡ Some xs → AreItems xs) → with_first o p ≡ Some items → AreItems items
      go None p one more e = absurd (none-some items e)
      go (Some x) None one more e = absurd (none-some items e)
      go (Some x) (Some xs) one more e =
          subst AreItems (same_Some (x ∷ xs) items e)
          (All-cons (λ (y : ListItem). proposal_meets context r y.proposal ≡ true) x xs (one x refl) (more xs refl))

  joined_items : (es : List ProposalOrRef) → list_all (entry_meets context r) es ≡ true → AreItems (join_items es)
  joined_items [] h = All-nil (λ (x : ListItem). proposal_meets context r x.proposal ≡ true)
  joined_items (entries.Proposal p ∷ es) h =
      All-cons (λ (x : ListItem). proposal_meets context r x.proposal ≡ true) (joiner_item p) (join_items es)
      (and-left (proposal_meets context r p) (list_all (entry_meets context r) es) h)
      (joined_items es (and-right (proposal_meets context r p) (list_all (entry_meets context r) es) h))
  joined_items (entries.Reference reference ∷ es) h = joined_items es h

  -- ---- a path

  keys_met : (nodes : List PathNode) → list_all (node_meets context.cipher_suite r) nodes ≡ true → All OfKey (map (λ (n : PathNode). n.encryption_key) nodes)
  keys_met [] h = All-nil OfKey
  keys_met (n ∷ ns) h =
      All-cons OfKey n.encryption_key (map (λ (m : PathNode). m.encryption_key) ns)
      (key_met context.cipher_suite r n of (and-left (node_meets context.cipher_suite r n) (list_all (node_meets context.cipher_suite r) ns) h))
      (keys_met ns (and-right (node_meets context.cipher_suite r n) (list_all (node_meets context.cipher_suite r) ns) h))

  path_met : (path : Option UpdatePath) → path_meets context r path ≡ true → IsGoodPath OfLeafNode OfKey path
  path_met None h = tt
  path_met (Some path) h =
      let own = leaf_meets context.version context.cipher_suite r path.leaf_node in
      let others = list_all (node_meets context.cipher_suite r) path.nodes in
      (and-left own others h, keys_met path.nodes (and-right own others h))

-- pending proposals
known_met : (asked : Rules) (context : GroupContext) (r : StrictRule) (of : IsOfNodes r) → has_rule asked (strict_number r) ≡ true
    → (known : List KnownProposal) → AreKnownStrict asked context known → AreKnown context r of known
unfolding proposal_refusal
known_met asked context r of has [] h = All-nil (λ (k : KnownProposal). proposal_meets context r k.proposal ≡ true)
known_met asked context r of has (k ∷ ks) h =
    All-cons (λ (k : KnownProposal). proposal_meets context r k.proposal ≡ true) k ks
    (met_of asked (λ (q : StrictRule). proposal_meets context q k.proposal) h.0 r of has) (known_met asked context r of has ks h.1)

known_push : (asked : Rules) (context : GroupContext) (known : List KnownProposal) (k : KnownProposal) → AreKnownStrict asked context known
    → proposal_refusal asked context k.proposal ≡ None → AreKnownStrict asked context (known ++ k ∷ [])
known_push asked context [] k h none = (none, tt)
known_push asked context (x ∷ xs) k h none = (h.0, known_push asked context xs k h.1 none)

-- ---- the rules that demand nothing of a tree

abbrev IsIdle : StrictRule → Type 0
IsIdle rules.TagLength = Unit {0}
IsIdle rules.CiphertextForm = Unit {0}
IsIdle rules.PskAhead = Unit {0}
IsIdle r = ⊥

idle_node : (context : GroupContext) (r : StrictRule) → IsIdle r → (n : NodeValue) → tree_node_meets context r n ≡ true
idle_node context rules.TagLength idle (leaf_node x) = refl
idle_node context rules.TagLength idle (parent_node p) = refl
idle_node context rules.CiphertextForm idle (leaf_node x) = refl
idle_node context rules.CiphertextForm idle (parent_node p) = refl
idle_node context rules.PskAhead idle (leaf_node x) = refl
idle_node context rules.PskAhead idle (parent_node p) = refl
idle_node context r idle n = absurd idle

idle_extensions : (r : StrictRule) (es : List Extension) → IsIdle r → extensions_meet r es ≡ true
idle_extensions rules.ExtensionRepeated es idle = absurd idle
idle_extensions rules.ExtensionUnreadable es idle = absurd idle
idle_extensions r es idle = refl

idle_meets : (context : GroupContext) (t : Tree) (r : StrictRule) → IsIdle r → Meets context t r
idle_meets context t r idle = record { extensions = idle_extensions r context.extensions idle; nodes = λ p n e. idle_node context r idle n }

-- ---- the types of the context's extensions are supported

module _ (es : List Extension) where
  abbrev Supports : LeafNode → Type 0
  Supports x = supports_all es x ≡ true

  abbrev AnyKey : List ℕ → Type 0
  AnyKey key = Unit {0}

  any_parent : (l : Tree) (p : Option ParentNode) (r : Tree) → AreGood Supports AnyKey l → AreGood Supports AnyKey r → AreGood Supports AnyKey (branch l p r)
  any_parent l None r a b = (a, tt, b)
  any_parent l (Some p) r a b = (a, tt, b)

  each_supports : (first : ℕ) (t : Tree) → all_leaves (λ _ x. supports_all es x) first t ≡ true → AreGood Supports AnyKey t
  each_supports first (leaf None) h = tt
  each_supports first (leaf (Some x)) h = h
  each_supports first (branch l p r) h =
      let own = all_leaves (λ _ x. supports_all es x) first l in
      let others = all_leaves (λ _ x. supports_all es x) (first + leaf_count l) r in
      any_parent l p r (each_supports first l (and-left own others h)) (each_supports (first + leaf_count l) r (and-right own others h))

support_node : (context : GroupContext) (n : NodeValue) → OfNode (Supports context.extensions) (AnyKey context.extensions) n
    → tree_node_meets context rules.GroupExtensionUnsupported n ≡ true
support_node context (leaf_node x) h = h
support_node context (parent_node p) h = refl

support_meets : (context : GroupContext) (t : Tree) → supports_extensions context.extensions t ≡ true → Meets context t rules.GroupExtensionUnsupported
support_meets context t h = record {
  extensions = refl;
  nodes = λ p n e.
      support_node context n
      (nodes-from_good (Supports context.extensions) (AnyKey context.extensions) t (each_supports context.extensions 0 t h) p n e);
}

-- ---- after a message

module _ (s : State) (strict : IsStrictState s) where
  -- a proposal is pending
  by_proposal : (a : AuthenticatedParts) (sender : Sender) (p : Proposal) (o : Option (List ℕ)) (step : Transition) → proposal_refusal s.rules s.context p ≡ None
      → option_map (after_proposal s a sender p) o ≡ Some step → IsStrictState step.state
  by_proposal a sender p o step none e =
      let w = came_from (after_proposal s a sender p) o step e in
      let still : IsStrictState (after_proposal s a sender p w.0).state = record {
        group = strict.group;
        known = known_push s.rules s.context s.known (pending_proposal a sender p w.0) strict.known none;
      } in
      subst (λ (u : Transition). IsStrictState u.state) w.2 still

  -- what a commit meets
  record IsMetBy (items : List ListItem) (c : Commit) : Type 0 where
    list : (r : StrictRule) (of : IsOfNodes r) → has_rule s.rules (strict_number r) ≡ true → AreItems s.context r of items
    path : (r : StrictRule) → IsOfNodes r → has_rule s.rules (strict_number r) ≡ true → path_meets s.context r c.path ≡ true

  module _ (a : AuthenticatedParts) (committer : Sender) (c : Commit) (items : List ListItem) (met : IsMetBy items c) (t : Tree)
      (made : changed_tree (hash_of s.context.cipher_suite) committer c.path (outcome items s.tree) ≡ Some t) where
    -- the state after it
    abbrev After : List ℕ → List ℕ → List ℕ → Transition
    After hash confirmed interim = committed (with_list s (Some items)) t hash confirmed interim

    new_nodes : (hash confirmed interim : List ℕ) (r : StrictRule) → IsOfNodes r → has_rule s.rules (strict_number r) ≡ true
        → Meets (After hash confirmed interim).state.context t r
    new_nodes hash confirmed interim r of has =
        let was = strict.group r has in
        let all = met.list r of has in
        let good = changed-good (OfLeafNode s.context r of) (OfKey s.context r of) (hash_of s.context.cipher_suite) committer c.path items s.tree t
        (items_bring s.context r of items all) (path_met s.context r of c.path (met.path r of has)) (met_nodes s.context r of s.tree was) made in
        record {
          extensions = extensions_kept s.context r of s.context.extensions items all was.extensions;
          nodes = λ p n e.
              from_node (After hash confirmed interim).state.context r of n (nodes-from_good (OfLeafNode s.context r of) (OfKey s.context r of) t good p n e);
        }

    new_state : (hash confirmed interim : List ℕ)
        → (has_rule s.rules 51 ≡ true → supports_after (After hash confirmed interim).taken (After hash confirmed interim).state ≡ true)
        → IsStrictState (After hash confirmed interim).state
    new_state hash confirmed interim supported = record { group = group; known = tt }
      where
        group : IsStrict s.rules (After hash confirmed interim).state.context t
        group rules.TagLength has = idle_meets (After hash confirmed interim).state.context t rules.TagLength tt
        group rules.ExtensionRepeated has = new_nodes hash confirmed interim rules.ExtensionRepeated tt has
        group rules.ExtensionMisplaced has = new_nodes hash confirmed interim rules.ExtensionMisplaced tt has
        group rules.ExtensionUnreadable has = new_nodes hash confirmed interim rules.ExtensionUnreadable tt has
        group rules.KeyForm has = new_nodes hash confirmed interim rules.KeyForm tt has
        group rules.CiphertextForm has = idle_meets (After hash confirmed interim).state.context t rules.CiphertextForm tt
        group rules.GroupUnlisted has = new_nodes hash confirmed interim rules.GroupUnlisted tt has
        group rules.DefaultListed has = new_nodes hash confirmed interim rules.DefaultListed tt has
        group rules.LifetimeEmpty has = new_nodes hash confirmed interim rules.LifetimeEmpty tt has
        group rules.CertificateKey has = new_nodes hash confirmed interim rules.CertificateKey tt has
        group rules.PskAhead has = idle_meets (After hash confirmed interim).state.context t rules.PskAhead tt
        group rules.GroupExtensionUnsupported has = support_meets (After hash confirmed interim).state.context t (supported has)
        group rules.PointOffCurve has = new_nodes hash confirmed interim rules.PointOffCurve tt has

    by_tree : (step : Transition) → (has_rule s.rules 51 ≡ true → supports_after step.taken step.state ≡ true)
        → after_tree (with_list s (Some items)) a t ≡ Some step → IsStrictState step.state
    by_tree step supported e =
        option_and_then_some (λ (hash : List ℕ).
        option_and_then (λ (confirmed : List ℕ). option_map (After hash confirmed) (interim_hash (hash_of s.context.cipher_suite) confirmed a.confirmation_tag))
        (confirmed_hash (hash_of s.context.cipher_suite) s.interim a))
        (tree_hash (hash_of s.context.cipher_suite) 0 t) step e
        (λ hash f g.
        option_and_then_some (λ (confirmed : List ℕ). option_map (After hash confirmed) (interim_hash (hash_of s.context.cipher_suite) confirmed a.confirmation_tag))
        (confirmed_hash (hash_of s.context.cipher_suite) s.interim a) step g
        (λ confirmed k l.
        (let w = came_from (After hash confirmed) (interim_hash (hash_of s.context.cipher_suite) confirmed a.confirmation_tag) step l in
        subst (λ (u : Transition). (has_rule s.rules 51 ≡ true → supports_after u.taken u.state ≡ true) → IsStrictState u.state) w.2
        (new_state hash confirmed w.0) supported)))

  module _ (a : AuthenticatedParts) (step : Transition) (supported : has_rule s.rules 51 ≡ true → supports_after step.taken step.state ≡ true) where
    by_commit : (committer : Sender) (c : Commit) (o : Option (List ListItem)) → ((items : List ListItem) → o ≡ Some items → IsMetBy items c)
        → after_commit s a committer c o ≡ Some step → IsStrictState step.state
    by_commit committer c None met e = absurd (none-some step e)
    by_commit committer c (Some items) met e =
        option_and_then_some (after_tree (with_list s (Some items)) a) (commit_tree s committer c (Some items)) step e
        (λ t made f. by_tree a committer c items (met items refl) t made step supported f)

    -- what its content meets
    module _ (c : Commit) (none : content_refusal s.rules s.context (contents.Commit c) ≡ None) where
      commit_met : (r : StrictRule) → IsOfNodes r → has_rule s.rules (strict_number r) ≡ true → content_meets s.context r (contents.Commit c) ≡ true
      unfolding content_refusal
      commit_met r of has = met_of s.rules (λ (q : StrictRule). content_meets s.context q (contents.Commit c)) none r of has

      entries_met : (r : StrictRule) → IsOfNodes r → has_rule s.rules (strict_number r) ≡ true → list_all (entry_meets s.context r) c.proposals ≡ true
      entries_met r of has = and-left (list_all (entry_meets s.context r) c.proposals) (path_meets s.context r c.path) (commit_met r of has)

      own_path_met : (r : StrictRule) → IsOfNodes r → has_rule s.rules (strict_number r) ≡ true → path_meets s.context r c.path ≡ true
      own_path_met r of has = and-right (list_all (entry_meets s.context r) c.proposals) (path_meets s.context r c.path) (commit_met r of has)

      by_member : (committer : Sender) → after_commit s a committer c (resolved committer s.known c.proposals) ≡ Some step → IsStrictState step.state
      by_member committer e =
          by_commit committer c (resolved committer s.known c.proposals)
          (λ items f. record {
            list = λ r of has. resolved_items s.context r of committer s.known c.proposals items (known_met s.rules s.context r of has s.known strict.known) (entries_met r of has) f;
            path = own_path_met;
          }) e

      by_joiner : after_commit s a senders.NewMemberCommit c (Some (join_items c.proposals)) ≡ Some step → IsStrictState step.state
      by_joiner e =
          by_commit senders.NewMemberCommit c (Some (join_items c.proposals))
          (λ items f. record {
            list = λ r of has. subst (AreItems s.context r of) (same_Some (join_items c.proposals) items f) (joined_items s.context r of c.proposals (entries_met r of has));
            path = own_path_met;
          }) e

    offer_none : (p : Proposal) → content_refusal s.rules s.context (contents.Proposal p) ≡ None → proposal_refusal s.rules s.context p ≡ None
    unfolding content_refusal proposal_refusal
    offer_none p none = none

    by_content : (i : ℕ) (content : Content) → content_refusal s.rules s.context content ≡ None → after_content s a i content ≡ Some step → IsStrictState step.state
    by_content i (contents.Application sent) none e = absurd (none-some step e)
    by_content i (contents.Proposal p) none e = by_proposal a (senders.Member i) p (reference_of s.context a) step (offer_none p none) e
    by_content i (contents.Commit c) none e = by_member c none (senders.Member i) e

    by_outside : (sender : Sender) (content : Content) → content_refusal s.rules s.context content ≡ None → after_outside s a sender content ≡ Some step → IsStrictState step.state
    by_outside sender (contents.Application sent) none e = absurd (none-some step e)
    by_outside sender (contents.Proposal p) none e = by_proposal a sender p (reference_of s.context a) step (offer_none p none) e
    by_outside sender (contents.Commit c) none e = absurd (none-some step e)

    by_join : (content : Content) → content_refusal s.rules s.context content ≡ None → after_join s a content ≡ Some step → IsStrictState step.state
    by_join (contents.Application sent) none e = absurd (none-some step e)
    by_join (contents.Proposal p) none e = absurd (none-some step e)
    by_join (contents.Commit c) none e = by_joiner c none e

    by_sender : (sender : Sender) → content_refusal s.rules s.context a.content.content ≡ None → after_sender s a sender ≡ Some step → IsStrictState step.state
    by_sender (senders.Member i) none e = by_content i a.content.content none e
    by_sender (senders.External k) none e = by_outside (senders.External k) a.content.content none e
    by_sender senders.NewMemberProposal none e = by_outside senders.NewMemberProposal a.content.content none e
    by_sender senders.NewMemberCommit none e = by_join a.content.content none e

-- ---- what an accepted message meets

none_refuses : (asked : Rules) (o : Option StrictRule) (b : Bool) → support_refusal asked (option_map Strict o) b ≡ None → o ≡ None
none_refuses asked None b e = refl
none_refuses asked (Some r) b e = absurd (go (comes_last (Strict r)) (first_failing (support_rules asked b)) e)
  where
    go : (c : Bool) (o : Option Refusal) → (if c then or_then o (Some (Strict r)) else Some (Strict r)) ≡ None → ⊥
    go true None e = none-some (Strict r) (sym e)
    go true (Some f) e = none-some f (sym e)
    go false o e = none-some (Strict r) (sym e)

module _ (s : State) (p : PublicParts) where
  abbrev TagsMeet : Bool
  TagsMeet = tag_meets s.context.cipher_suite p.auth.confirmation_tag && tag_meets s.context.cipher_suite p.membership_tag

  content_none : unmet_rule s p ≡ None → content_refusal s.rules s.context p.auth.content.content ≡ None
  content_none none = go (has_rule s.rules 40) TagsMeet refl refl
    where
      go : (a b : Bool) → has_rule s.rules 40 ≡ a → TagsMeet ≡ b → content_refusal s.rules s.context p.auth.content.content ≡ None
      go true true e f = sym (content_unmet s p (ap (λ (x : Bool). not x || TagsMeet) e ∙ f)) ∙ none
      go true false e f = absurd (none-some rules.TagLength (sym none ∙ tags_unmet s p e f))
      go false b e f = sym (content_unmet s p (ap (λ (x : Bool). not x || TagsMeet) e)) ∙ none

module _ (G : VerifyFn) (s : State) (strict : IsStrictState s) where
  next_strict : (required : RequiredCapabilities) (m : Message) (step : Transition) → first_failing (all_rules G s required m) ≡ None → next s m ≡ Some step
      → (has_rule s.rules 51 ≡ true → supports_after step.taken step.state ≡ true) → IsStrictState step.state
  next_strict required (messages.Public p) step kept e supported =
      let none : unmet_rule s p ≡ None =
      none_refuses s.rules (unmet_rule s p) (supports_next (next s (messages.Public p)))
      (sym (strict_word s p) ∙ strict_kept G s required (messages.Public p) kept) in
      by_sender s strict p.auth step supported p.auth.content.sender (content_none s p none) e
  next_strict required (messages.Unread w b) step kept e supported = absurd (none-some step e)
  next_strict required (messages.GroupInfo g) step kept e supported = absurd (none-some step e)
  next_strict required (messages.KeyPackage k) step kept e supported = absurd (none-some step e)

  accepted_strict : (bytes : List ℕ) (step : Transition) → IsAcceptable G s bytes → IsNext s bytes step → IsStrictState step.state
  accepted_strict bytes step a n =
      next_strict a.required a.message step a.rules_hold
      (ap (next s) (one_message a.message n.message bytes a.encoded n.encoded) ∙ n.after)
      (λ has. accepted_supports G s has bytes step a n)

  taken_strict : (bytes : List ℕ) (answer : Result Taken Refusal) (new : State) → IsTransition G s bytes answer new → IsStrictState new
  taken_strict bytes (Ok taken) new h = accepted_strict bytes (record { taken = taken; state = new }) h.0 h.1
  taken_strict bytes (Err e) new h = subst IsStrictState (sym h.0) strict

-- ---- the theorems

pub starts_strict : StartsAreStrict
starts_strict asked profile G info supplied s h = subst IsStrictState (sym h.state) (record { group = h.strict; known = tt })

pub runs_keep_strictness : RunsKeepStrictness
runs_keep_strictness G s new [] strict h = subst IsStrictState (sym h) strict
runs_keep_strictness G s new (call ∷ calls) strict h =
    runs_keep_strictness G h.0 new calls (taken_strict G s strict call.bytes call.answer h.0 h.1) h.2

-- a rule of both sets is of one of them
of_union : (has asked : Bool) (all added : Bool) → all ≡ (has || asked) → added ≡ (asked && not has) → all ≡ true → (has ≡ true) ⊎ (added ≡ true)
of_union true asked all added e f h = inl refl
of_union false true all added e f h = inr f
of_union false false all added e f h = absurd (false≢true (sym e ∙ h))

module _ (asked : Rules) (s new : State) (strict : IsStrictState s) (h : HasAddedRules asked s new) where
  from_union : (n : ℕ) → has_rule h.all n ≡ true → (has_rule s.rules n ≡ true) ⊎ (has_rule h.added n ≡ true)
  from_union n has = of_union (has_rule s.rules n) (has_rule asked n) (has_rule h.all n) (has_rule h.added n) (h.is_union n) (h.is_difference n) has

  group_added : IsStrict h.all s.context s.tree
  group_added r has =
      elim (from_union (strict_number r) has) [
        | inl own ↦ strict.group r own
        | inr other ↦ h.strict r other
      ]

  each_added : (meets : StrictRule → Bool) (rs : List StrictRule) → Each (IsMet s.rules meets) rs → Each (IsMet h.added meets) rs → Each (IsMet h.all meets) rs
  each_added meets [] a b = tt
  each_added meets (r ∷ rs) a b =
      (λ has. elim (from_union (strict_number r) has) [ inl own ↦ a.0 own | inr other ↦ b.0 other ], each_added meets rs a.1 b.1)

  known_added : (known : List KnownProposal) → AreKnownStrict s.rules s.context known → AreKnownStrict h.added s.context known → AreKnownStrict h.all s.context known
  unfolding proposal_refusal
  known_added [] a b = tt
  known_added (k ∷ ks) a b =
      let meets : StrictRule → Bool = λ r. proposal_meets s.context r k.proposal in (
        none_unmet h.all meets content_rules (each_added meets content_rules (each_met s.rules meets content_rules a.0) (each_met h.added meets content_rules b.0)),
        known_added ks a.1 b.1,
      )

  added_strict : IsStrictState new
  added_strict = subst IsStrictState (sym h.state) (record { group = group_added; known = known_added s.known strict.known h.known })

-- a state without strict rules is strict
known_plain : (context : GroupContext) (known : List KnownProposal) → AreKnownStrict plain_rules context known
unfolding proposal_refusal
known_plain context [] = tt
known_plain context (k ∷ ks) = (no_plain_rule (λ r. proposal_meets context r k.proposal) content_rules, known_plain context ks)

pub plain_strict : (s : State) → s.rules ≡ plain_rules → IsStrictState s
plain_strict s plain = record {
  group = λ r has. absurd (false≢true (sym (has_rule-plain (strict_number r)) ∙ ap (λ (x : Rules). has_rule x (strict_number r)) (sym plain) ∙ has));
  known = subst (λ (x : Rules). AreKnownStrict x s.context s.known) (sym plain) (known_plain s.context s.known);
}

pub added_rules_keep_strictness : AddedRulesKeepStrictness
added_rules_keep_strictness asked s new strict h = added_strict asked s new strict h

-- ---- the set

run_rules : (G : VerifyFn) (s : State) (calls : List Call) (new : State) → IsRun G s calls new → new.rules ≡ s.rules
run_rules G s [] new h = ap (λ (t : State). t.rules) h
run_rules G s (call ∷ calls) new h =
    run_rules G h.0 calls new h.2
    ∙ elim (taken G s call.bytes call.answer h.0 h.1) [
      | inl stays ↦ stays.rules
      | inr moves ↦ moves.rules
    ]

pub runs_keep_rules : RunsKeepRules
runs_keep_rules G s new calls run = run_rules G s calls new run

pub followers_strict : FollowersAreStrict
followers_strict asked profile G info supplied first last calls start run = (
  run_rules G first calls last run ∙ ap (λ (t : State). t.rules) start.state,
  runs_keep_strictness G first last calls (starts_strict asked profile G info supplied first start) run,
)
