-- Two meanings that answer the wanted signatures of a message alike, and those of the state's tree, refuse it alike.
use Rattle.std.proofs.Common.{◌≡◌, ◌∙◌, ◌<◌, ℕ, List, [], ◌∷◌, ◌++◌, Bool, true, false, Option, Some, None, IsSome, refl, sym, ap, subst, inl, inr}
use Rattle.std.specs.Prelude.{◌==◌, ◌&&◌, not, is_some, nat_lt, if◌then◌else◌}
use Rattle.std.specs.List.{list_all}
use Rattle.std.specs.Str.{bytes_eq}
use Rattle.std.proofs.lemmas.Option.{none-some}
use Rattle.mls_nodes.specs.declared.context.GroupContext.{GroupContext}
use Rattle.mls_nodes.specs.declared.leaf.LeafNode.{LeafNode}
use Rattle.mls_nodes.specs.declared.required_capabilities.RequiredCapabilities.{RequiredCapabilities}
use Rattle.mls_nodes.specs.Limits.{leaf_limit}
use Rattle.mls_tree.specs.Tree.{Tree, leaf_at, leaf_count, member_count}
use Rattle.mls_tree.specs.BlankLeaves.{first_blank_leaf}
use Rattle.mls_tree.specs.TreeOperations.{seat}
use Rattle.mls_hash.specs.SuiteHash.{hash_of}
use Rattle.mls_check.specs.DistinctKeys.{has_distinct_keys}
use Rattle.mls_check.specs.LeafValidation.{is_leaf_signed}
use Rattle.mls_check.specs.Signatures.{VerifyFn}
use Rattle.mls_check.specs.declared.members.MemberFault.{MemberFault}
use Rattle.mls_msgs.specs.declared.authenticated.AuthenticatedParts.{AuthenticatedParts}
use Rattle.mls_msgs.specs.declared.commit.Commit.{Commit}
use Rattle.mls_msgs.specs.declared.commit.UpdatePath.{UpdatePath}
use Rattle.mls_msgs.specs.declared.framed_content.Content.{Content}
use Rattle.mls_msgs.specs.declared.framed_content.Content.TheVariants as contents
use Rattle.mls_msgs.specs.declared.framed_content.Sender.{Sender}
use Rattle.mls_msgs.specs.declared.framed_content.Sender.TheVariants as senders
use Rattle.mls_msgs.specs.declared.key_package.KeyPackage.{KeyPackage}
use Rattle.mls_msgs.specs.declared.message.Message.{Message}
use Rattle.mls_msgs.specs.declared.message.Message.TheVariants as messages
use Rattle.mls_msgs.specs.declared.profile.Profile.{Profile}
use Rattle.mls_msgs.specs.declared.profile.Profile.TheVariants.{Members, Full}
use Rattle.mls_msgs.specs.declared.proposal.Proposal.{Proposal}
use Rattle.mls_apply.specs.Senders.{member_index}
use Rattle.mls_signatures.specs.SigningKeys.{outside_key, may_propose}
use Rattle.mls_msgs.specs.declared.proposal.Proposal.TheVariants as proposals
use Rattle.mls_msgs.specs.declared.proposal.ProposalOrRef.{ProposalOrRef}
use Rattle.mls_msgs.specs.declared.proposal.ProposalOrRef.TheVariants as entries
use Rattle.mls_apply.specs.declared.list_item.ListItem.{ListItem}
use Rattle.mls_apply.specs.declared.refusal.Refusal.{Refusal}
use Rattle.mls_apply.specs.declared.refusal.Refusal.TheVariants.{WrongGroup, WrongEpoch, BadSignature, KnownProposal, AddInvalid, UpdateInvalid, RemoveInvalid, ContextExtensionsInvalid, PskInvalid, ReInitInvalid, ExternalInitMisplaced, GroupOver, UnknownExternal, SenderContent, LastEpoch, KeyRepeated, JoinList}
use Rattle.mls_apply.specs.ResolvedList.{resolved}
use Rattle.mls_apply.specs.JoinRules.{path_of_join, is_join_list, join_items, join_item_rules}
use Rattle.mls_apply.specs.ListRules.{list_rules, list_refusal}
use Rattle.mls_apply.specs.AppliedList.{AppliedTree, outcome}
use Rattle.mls_apply.specs.ContextExtensions as extensions
use Rattle.mls_apply.specs.ProposalRules.{fits_group, is_valid_add, fits_leaf, is_valid_update, is_valid_update_by, valid_if_add, valid_if_update, valid_if_remove, valid_if_extensions, valid_if_psk, valid_if_reinit, is_no_external_init, holds_if_by_value, all_inline}
use Rattle.mls_apply.specs.RuleLists.{Rule, rule, first_failing}
use Rattle.mls_apply.proofs.Leaves.{leaf_inside}
use Rattle.mls_apply.proofs.RuleLists.{AreKept, passed}
use Rattle.mls_follow.specs.State.{State, last_epoch}
use Rattle.mls_follow.specs.MessageRules.{is_new_proposal, is_frame_signed, proposal_message_rules, member_rules, tree_rules, CommitterTree, seated, resulting, path_rules_of, committer_tree_rules, applied_tree_rules, required_after, rules_with_requirements, inline_rules, proposal_list_rules, commit_rules, content_rules, leaf_rules, is_known_external, signed_proposal_rules, outside_content_rules, outside_rules, external_commit_rules, signed_commit_rules, joiner_rules, if_full, sender_rules, frame_rules, message_rules}
use Rattle.mls_signatures.specs.Agreement.{AgreeOn}
use Rattle.mls_signatures.specs.SignaturesToVerify.{leaf_signatures, package_signatures, framed_content_signatures, tree_signatures, signatures_at, proposal_signatures, entries_signatures, new_leaves, path_signatures, applied_list_signatures, commit_signatures, update_signatures, content_signatures, member_signatures, outside_content_signatures, outside_signatures, seated_signatures, join_list_signatures, join_signatures, join_content_signatures, in_full, sender_signatures, all_message_signatures, message_signatures}
use Rattle.mls_follow.specs.MessageSignatures.{SignaturesDetermineRefusal}
use Rattle.mls_signatures.specs.declared.signature_to_verify.SignatureToVerify.{SignatureToVerify}
use Rattle.mls_follow.proofs.Staying.{committer_stays}
use Rattle.mls_signatures.proofs.Agreement.{front, back, from_deduplicated, given}
use Rattle.mls_follow.proofs.SignatureAgreement.{leaf_alike, package_alike, frame_alike, tree_leaf, listed_leaf, fault_alike}
use Rattle.mls_follow.proofs.CommitLeaves.{IsPathLeaf, new_leaf_is, listed}
use Rattle.mls_follow.proofs.JoinedLeaves.{join_stood, seat_leaves}
use Rattle.mls_follow.proofs.EncodedCommits.{added_inside}
use Rattle.mls_follow.proofs.StrictLists.{all_alike}

-- ---- rules in a list

-- where the first rules hold, what comes behind decides
behind_alike : {E : Type 0} (xs ys zs : List (Rule E)) → (first_failing xs ≡ None → first_failing ys ≡ first_failing zs)
    → first_failing (xs ++ ys) ≡ first_failing (xs ++ zs)
behind_alike [] ys zs h = h refl
behind_alike {E} (x ∷ xs) ys zs h = go x.holds (λ later. behind_alike xs ys zs later) h
  where
    go : (b : Bool) → ((first_failing xs ≡ None → first_failing ys ≡ first_failing zs) → first_failing (xs ++ ys) ≡ first_failing (xs ++ zs))
        → (first_failing (rule x.refusal b ∷ xs) ≡ None → first_failing ys ≡ first_failing zs)
        → first_failing (rule x.refusal b ∷ (xs ++ ys)) ≡ first_failing (rule x.refusal b ∷ (xs ++ zs))
    go true later h = later h
    go false later h = refl

-- the rules for a list hold
list_kept : (committer : Sender) (items : List ListItem) (has_path : Bool) → first_failing (list_rules committer items has_path) ≡ None
    → list_refusal committer items has_path ≡ None
unfolding list_refusal
list_kept committer items has_path e = e

-- the first of some rules that hold
first_kept : (e : Refusal) (b : Bool) (rs : List (Rule Refusal)) → first_failing (rule e b ∷ rs) ≡ None → b ≡ true
first_kept e b rs kept = let a : AreKept (rule e b ∷ rs) = record { none = kept } in (passed a).0

-- a rule that holds, before others
passing : (e : Refusal) (b : Bool) (o p : Option Refusal) → (b ≡ true → o ≡ p) → (if b then o else Some e) ≡ (if b then p else Some e)
passing e true o p h = h refl
passing e false o p h = refl

-- the rules for the group and the epoch of a frame, and for a group that is over
gated : (b c d : Bool) (o p : Option Refusal) → ((b && c) ≡ true → d ≡ true → o ≡ p)
    → (if b then (if c then (if d then o else Some GroupOver) else Some WrongEpoch) else Some WrongGroup)
    ≡ (if b then (if c then (if d then p else Some GroupOver) else Some WrongEpoch) else Some WrongGroup)
gated true true d o p h = passing GroupOver d o p (h refl)
gated true false d o p h = refl
gated false c d o p h = refl

module _ (G K : VerifyFn) where
  while_open : (b : Bool) (qs : List SignatureToVerify) → not b ≡ true → AgreeOn G K (if b then [] else qs) → AgreeOn G K qs
  while_open true qs e h = absurd (cc)
  while_open false qs e h = h

  -- ---- proposals

  module _ (context : GroupContext) where
    add_alike : (k : KeyPackage)
        → AgreeOn G K (leaf_signatures context.cipher_suite context.group_id 0 k.leaf_node ++ package_signatures context.cipher_suite k)
        → is_valid_add G context k ≡ is_valid_add K context k
    unfolding is_valid_add
    add_alike k h =
        let leaf = leaf_alike G K context.cipher_suite context.group_id 0 k.leaf_node
        (front G K (leaf_signatures context.cipher_suite context.group_id 0 k.leaf_node) (package_signatures context.cipher_suite k) h) in
        let whole = package_alike G K context.cipher_suite k
        (back G K (leaf_signatures context.cipher_suite context.group_id 0 k.leaf_node) (package_signatures context.cipher_suite k) h) in
        λ i. fits_group context k && leaf i && whole i

    update_alike : (i : ℕ) (o : Option LeafNode) (x : LeafNode) → AgreeOn G K (leaf_signatures context.cipher_suite context.group_id i x)
        → is_valid_update G context i o x ≡ is_valid_update K context i o x
    unfolding is_valid_update
    update_alike i present x h =
        ap (λ (b : Bool). fits_leaf present x && b) (leaf_alike G K context.cipher_suite context.group_id i x h)

    pub adds_alike : (sender : Sender) (p : Proposal) → AgreeOn G K (proposal_signatures context sender p) → valid_if_add G context p ≡ valid_if_add K context p
    adds_alike sender (proposals.Add k) h = add_alike k h
    adds_alike sender (proposals.Update x) h = refl
    adds_alike sender (proposals.Remove j) h = refl
    adds_alike sender (proposals.ContextExtensions es) h = refl
    adds_alike sender (proposals.PreSharedKey id) h = refl
    adds_alike sender (proposals.ReInit r) h = refl
    adds_alike sender (proposals.ExternalInit output) h = refl

    update_by_alike : (t : Tree) (sender : Sender) (x : LeafNode) → AgreeOn G K (update_signatures context (member_index sender) x)
        → is_valid_update_by G context t sender x ≡ is_valid_update_by K context t sender x
    update_by_alike t (senders.Member i) x h = update_alike i (leaf_at 0 t i) x h
    update_by_alike t (senders.External k) x h = refl
    update_by_alike t senders.NewMemberProposal x h = refl
    update_by_alike t senders.NewMemberCommit x h = refl

    pub updates_alike : (t : Tree) (sender : Sender) (p : Proposal) → AgreeOn G K (proposal_signatures context sender p)
        → valid_if_update G context t sender p ≡ valid_if_update K context t sender p
    updates_alike t sender (proposals.Add k) h = refl
    updates_alike t sender (proposals.Update x) h = update_by_alike t sender x h
    updates_alike t sender (proposals.Remove j) h = refl
    updates_alike t sender (proposals.ContextExtensions es) h = refl
    updates_alike t sender (proposals.PreSharedKey id) h = refl
    updates_alike t sender (proposals.ReInit r) h = refl
    updates_alike t sender (proposals.ExternalInit output) h = refl

    -- a test of the proposals in a commit itself
    inline_alike : (i : Sender) (f g : Proposal → Bool) → ((p : Proposal) → AgreeOn G K (proposal_signatures context i p) → f p ≡ g p)
        → (es : List ProposalOrRef) → AgreeOn G K (entries_signatures context i es) → list_all (holds_if_by_value f) es ≡ list_all (holds_if_by_value g) es
    inline_alike i f g each [] h = refl
    inline_alike i f g each (entries.Proposal p ∷ es) h =
        let here = each p (front G K (proposal_signatures context i p) (entries_signatures context i es) h) in
        let rest = inline_alike i f g each es (back G K (proposal_signatures context i p) (entries_signatures context i es) h) in
        λ k. here k && rest k
    inline_alike i f g each (entries.Reference r ∷ es) h = inline_alike i f g each es h

    all_inline_alike : (i : Sender) (f g : Proposal → Bool) → ((p : Proposal) → AgreeOn G K (proposal_signatures context i p) → f p ≡ g p)
        → (es : List ProposalOrRef) → AgreeOn G K (entries_signatures context i es) → all_inline f es ≡ all_inline g es
    unfolding all_inline
    all_inline_alike i f g each es h = inline_alike i f g each es h

  -- ---- messages in a state

  module _ (s : State) (required : RequiredCapabilities) (old : AgreeOn G K (tree_signatures s.context.cipher_suite s.context.group_id 0 s.tree)) where
    offers_alike : (a : AuthenticatedParts) (sender : Sender) (p : Proposal) → AgreeOn G K (proposal_signatures s.context sender p)
        → first_failing (proposal_message_rules G s a sender p) ≡ first_failing (proposal_message_rules K s a sender p)
    offers_alike a sender p h =
        let adds = adds_alike s.context sender p h in
        let updates = updates_alike s.context s.tree sender p h in
        λ k. first_failing (rule KnownProposal (is_new_proposal s a) ∷
        rule AddInvalid (adds k) ∷ rule UpdateInvalid (updates k) ∷ rule RemoveInvalid (valid_if_remove s.tree p) ∷
        rule ContextExtensionsInvalid (valid_if_extensions p) ∷ rule PskInvalid (valid_if_psk s.context sender p) ∷
        rule ReInitInvalid (valid_if_reinit s.context p) ∷ rule ExternalInitMisplaced (is_no_external_init p) ∷ [])

    -- the leaf of a path
    path_leaf : (i : ℕ) (path : Option UpdatePath) (j : ℕ) (x : LeafNode) → IsPathLeaf j x i path → AgreeOn G K (path_signatures s.context i path)
        → AgreeOn G K (leaf_signatures s.context.cipher_suite s.context.group_id j x)
    path_leaf i None j x c h = absurd c
    path_leaf i (Some path) j x c h =
        let moved : AgreeOn G K (leaf_signatures s.context.cipher_suite s.context.group_id j path.leaf_node) =
        subst (λ k. AgreeOn G K (leaf_signatures s.context.cipher_suite s.context.group_id k path.leaf_node)) c.0 h in
        subst (λ (y : LeafNode). AgreeOn G K (leaf_signatures s.context.cipher_suite s.context.group_id j y)) c.1 moved

    -- the leaves of the tree after a commit: that of its path, and the others of the tree in which the committer has its leaf
    module _ (q : CommitterTree) (path : Option UpdatePath) (inside : q.leaf < leaf_count q.applied_tree.tree)
        (said : (j : ℕ) (x : LeafNode) → leaf_at 0 q.applied_tree.tree j ≡ Some x → AgreeOn G K (leaf_signatures s.context.cipher_suite s.context.group_id j x))
        (own : AgreeOn G K (path_signatures s.context q.leaf path)) where
      leaves_say : (t : Tree) → resulting (hash_of s.context.cipher_suite) q.applied_tree q.leaf path ≡ Some t → (j : ℕ) (x : LeafNode) → leaf_at 0 t j ≡ Some x
          → is_leaf_signed G s.context.cipher_suite s.context.group_id j x ≡ is_leaf_signed K s.context.cipher_suite s.context.group_id j x
      leaves_say t e j x set =
          leaf_alike G K s.context.cipher_suite s.context.group_id j x
          (elim (new_leaf_is j x (hash_of s.context.cipher_suite) q.applied_tree q.leaf path t inside e set) [
            | inl c ↦ path_leaf q.leaf path j x c own
            | inr at ↦ said j x at
          ])

      trees_alike : (o : Option Tree) → resulting (hash_of s.context.cipher_suite) q.applied_tree q.leaf path ≡ o
          → first_failing (tree_rules G s required o) ≡ first_failing (tree_rules K s required o)
      trees_alike None e = refl
      trees_alike (Some t) e =
          ap (λ (f : Option MemberFault). first_failing (rule KeyRepeated (has_distinct_keys t) ∷ member_rules f))
          (fault_alike G K s.context.cipher_suite s.context.group_id required t (leaves_say t e))

      committer_alike : first_failing (committer_tree_rules G s required path (Some q)) ≡ first_failing (committer_tree_rules K s required path (Some q))
      committer_alike =
          let H = hash_of s.context.cipher_suite in
          behind_alike (path_rules_of H q.applied_tree q.leaf path) (tree_rules G s required (resulting H q.applied_tree q.leaf path)) (tree_rules K s required (resulting H q.applied_tree q.leaf path))
          (λ _. trees_alike (resulting H q.applied_tree q.leaf path) refl)

    -- the leaves that the list of a member's commit brings into the tree, and the others
    module _ (i : ℕ) (path : Option UpdatePath) (items : List ListItem) (g : AppliedTree) (made : outcome items s.tree ≡ Some g)
        (h : AgreeOn G K (applied_list_signatures new_leaves s.context i path items (Some g))) where
      of_list : AgreeOn G K (signatures_at s.context.cipher_suite s.context.group_id g.tree (new_leaves items g))
      of_list = front G K (signatures_at s.context.cipher_suite s.context.group_id g.tree (new_leaves items g)) (path_signatures s.context i path) h

      of_path : AgreeOn G K (path_signatures s.context i path)
      of_path = back G K (signatures_at s.context.cipher_suite s.context.group_id g.tree (new_leaves items g)) (path_signatures s.context i path) h

      listed_say : (j : ℕ) (x : LeafNode) → leaf_at 0 g.tree j ≡ Some x → AgreeOn G K (leaf_signatures s.context.cipher_suite s.context.group_id j x)
      listed_say j x at =
          elim (listed j x items s.tree g made at) [
            | inl c ↦ listed_leaf G K s.context.cipher_suite s.context.group_id g.tree (new_leaves items g) of_list j x c at
            | inr stood ↦ tree_leaf G K s.context.cipher_suite s.context.group_id 0 s.tree old j x stood
          ]

    outcomes_alike : (i : ℕ) (path : Option UpdatePath) (items : List ListItem) (o : Option AppliedTree) → outcome items s.tree ≡ o
        → list_refusal (senders.Member i) items (is_some path) ≡ None → IsSome (leaf_at 0 s.tree i)
        → AgreeOn G K (applied_list_signatures new_leaves s.context i path items o)
        → first_failing (applied_tree_rules G s required (senders.Member i) path o) ≡ first_failing (applied_tree_rules K s required (senders.Member i) path o)
    outcomes_alike i path items None e kept set h = refl
    outcomes_alike i path items (Some g) e kept set h =
        let there = committer_stays i items (is_some path) s.tree g kept e set in
        committer_alike (record { applied_tree = g; leaf = i }) path (leaf_inside g.tree i there) (listed_say i path items g e h) (of_path i path items g e h)

    -- the leaves of the tree in which a client that joins has its leaf
    module _ (es : List ProposalOrRef) (list : is_join_list es ≡ true) (path : UpdatePath) where
      joined_say : (g : AppliedTree) → outcome (join_items es) s.tree ≡ Some g → (j : ℕ) (x : LeafNode) → leaf_at 0 (seat g.tree).tree j ≡ Some x
          → AgreeOn G K (leaf_signatures s.context.cipher_suite s.context.group_id j x)
      joined_say g made j x at =
          tree_leaf G K s.context.cipher_suite s.context.group_id 0 s.tree old j x
          (join_stood es s.tree g j x list made (sym (seat_leaves g.tree j) ∙ at))

      joins_alike : (o : Option AppliedTree) → outcome (join_items es) s.tree ≡ o → AgreeOn G K (seated_signatures s.context path o)
          → first_failing (applied_tree_rules G s required senders.NewMemberCommit (Some path) o)
          ≡ first_failing (applied_tree_rules K s required senders.NewMemberCommit (Some path) o)
      joins_alike None made h = refl
      joins_alike (Some g) made h = if_room (nat_lt (member_count g.tree) leaf_limit)
        where
          if_room : (b : Bool) → first_failing (committer_tree_rules G s required (Some path) (if b then Some (seated g) else None))
              ≡ first_failing (committer_tree_rules K s required (Some path) (if b then Some (seated g) else None))
          if_room false = refl
          if_room true =
              committer_alike (seated g) (Some path) (added_inside g.tree (first_blank_leaf 0 g.tree) refl) (joined_say g made) h

  -- the rest of the rules, in a state with what it requires
  module _ (s : State) (required : RequiredCapabilities) (old : AgreeOn G K (tree_signatures s.context.cipher_suite s.context.group_id 0 s.tree)) where
    unders_alike : (i : ℕ) (path : Option UpdatePath) (items : List ListItem) (o : Option AppliedTree) → outcome items s.tree ≡ o
        → list_refusal (senders.Member i) items (is_some path) ≡ None → IsSome (leaf_at 0 s.tree i)
        → AgreeOn G K (applied_list_signatures new_leaves s.context i path items o) → (after : Option RequiredCapabilities)
        → first_failing (rules_with_requirements G s (senders.Member i) path o after) ≡ first_failing (rules_with_requirements K s (senders.Member i) path o after)
    unders_alike i path items o e kept set h None = refl
    unders_alike i path items o e kept set h (Some r) = outcomes_alike s r old i path items o e kept set h

    lists_alike : (i : ℕ) (c : Commit) (o : Option (List ListItem)) → IsSome (leaf_at 0 s.tree i) → AgreeOn G K (commit_signatures s.context s.tree i c o)
        → first_failing (proposal_list_rules G s required i c o) ≡ first_failing (proposal_list_rules K s required i c o)
    lists_alike i c None set h = refl
    lists_alike i c (Some items) set h =
        let inline = front G K (entries_signatures s.context (senders.Member i) c.proposals) (applied_list_signatures new_leaves s.context i c.path items (outcome items s.tree)) h in
        let after = back G K (entries_signatures s.context (senders.Member i) c.proposals) (applied_list_signatures new_leaves s.context i c.path items (outcome items s.tree)) h in
        let adds = all_inline_alike s.context (senders.Member i) (valid_if_add G s.context) (valid_if_add K s.context) (adds_alike s.context (senders.Member i)) c.proposals inline in
        let updates = all_inline_alike s.context (senders.Member i) (valid_if_update G s.context s.tree (senders.Member i)) (valid_if_update K s.context s.tree (senders.Member i))
        (updates_alike s.context s.tree (senders.Member i)) c.proposals inline in
        let own : inline_rules G s i c ≡ inline_rules K s i c = λ k.
        rule AddInvalid (adds k) ∷ rule UpdateInvalid (updates k) ∷ rule RemoveInvalid (all_inline (valid_if_remove s.tree) c.proposals) ∷
        rule ContextExtensionsInvalid (all_inline valid_if_extensions c.proposals) ∷ rule PskInvalid (all_inline (valid_if_psk s.context (senders.Member i)) c.proposals) ∷
        rule ReInitInvalid (all_inline (valid_if_reinit s.context) c.proposals) ∷ rule ExternalInitMisplaced (all_inline is_no_external_init c.proposals) ∷ [] in
        let of_list = list_rules (senders.Member i) items (is_some c.path) in
        let under_G = rules_with_requirements G s (senders.Member i) c.path (outcome items s.tree) (required_after required (extensions.proposed_extensions items)) in
        let under_K = rules_with_requirements K s (senders.Member i) c.path (outcome items s.tree) (required_after required (extensions.proposed_extensions items)) in
        let rest_G = of_list ++ under_G in
        let rest_K = of_list ++ under_K in
        ap (λ (rs : List (Rule Refusal)). first_failing (rs ++ rest_G)) own
        ∙ behind_alike (inline_rules K s i c) rest_G rest_K
        (λ _. behind_alike of_list under_G under_K
        (λ e. unders_alike i c.path items (outcome items s.tree) refl (list_kept (senders.Member i) items (is_some c.path) e) set after (required_after required (extensions.proposed_extensions items))))

    commits_alike : (i : ℕ) (c : Commit) → IsSome (leaf_at 0 s.tree i) → AgreeOn G K (commit_signatures s.context s.tree i c (resolved (senders.Member i) s.known c.proposals))
        → first_failing (commit_rules G s required i c) ≡ first_failing (commit_rules K s required i c)
    commits_alike i c set h =
        ap (λ (o : Option Refusal). if nat_lt s.context.epoch last_epoch then o else Some LastEpoch)
        (lists_alike i c (resolved (senders.Member i) s.known c.proposals) set h)

    -- an external commit with a path
    module _ (c : Commit) (path : UpdatePath) where
      joins_under_alike : (p : Option UpdatePath) → p ≡ Some path → is_join_list c.proposals ≡ true
          → AgreeOn G K (seated_signatures s.context path (outcome (join_items c.proposals) s.tree)) → (after : Option RequiredCapabilities)
          → first_failing (rules_with_requirements G s senders.NewMemberCommit p (outcome (join_items c.proposals) s.tree) after)
          ≡ first_failing (rules_with_requirements K s senders.NewMemberCommit p (outcome (join_items c.proposals) s.tree) after)
      joins_under_alike p e list h None = refl
      joins_under_alike p e list h (Some r) =
          subst (λ (v : Option UpdatePath). first_failing (applied_tree_rules G s r senders.NewMemberCommit v (outcome (join_items c.proposals) s.tree))
          ≡ first_failing (applied_tree_rules K s r senders.NewMemberCommit v (outcome (join_items c.proposals) s.tree))) (sym e)
          (joins_alike s r old c.proposals list path (outcome (join_items c.proposals) s.tree) refl h)

      -- its list satisfies its rules
      join_kept : (p : Option UpdatePath) → p ≡ Some path → first_failing (path_of_join s.context s.tree c.proposals p) ≡ None
          → is_join_list c.proposals ≡ true
      join_kept None e kept = absurd (none-some path e)
      join_kept (Some other) e kept =
          first_kept JoinList (is_join_list c.proposals) (join_item_rules s.context s.tree other.leaf_node (join_items c.proposals)) kept

      externals_alike : c.path ≡ Some path → AgreeOn G K (join_list_signatures s.context s.tree c path)
          → first_failing (external_commit_rules G s required c) ≡ first_failing (external_commit_rules K s required c)
      externals_alike e h =
          let items = join_items c.proposals in
          let after = required_after required (extensions.proposed_extensions items) in
          let of_list = path_of_join s.context s.tree c.proposals c.path in
          let under_G = rules_with_requirements G s senders.NewMemberCommit c.path (outcome items s.tree) after in
          let under_K = rules_with_requirements K s senders.NewMemberCommit c.path (outcome items s.tree) after in
          passing LastEpoch (nat_lt s.context.epoch last_epoch) (first_failing (of_list ++ under_G)) (first_failing (of_list ++ under_K))
          (λ _. behind_alike of_list under_G under_K
          (λ kept. let list = join_kept c.path e kept in
          joins_under_alike c.path e list (given G K (is_join_list c.proposals) (seated_signatures s.context path (outcome items s.tree)) list h) after))

    module _ (a : AuthenticatedParts) where
      signed_alike : (key : List ℕ) (o p : Option Refusal) → AgreeOn G K (framed_content_signatures s.context key a) → o ≡ p
          → (if is_frame_signed G s.context key a then o else Some BadSignature) ≡ (if is_frame_signed K s.context key a then p else Some BadSignature)
      signed_alike key o p h e = let frame = frame_alike G K s.context key a h in λ k. if frame k then e k else Some BadSignature

      proposals_alike : (sender : Sender) (p : Proposal) (key : List ℕ) → AgreeOn G K (framed_content_signatures s.context key a ++ proposal_signatures s.context sender p)
          → (if is_frame_signed G s.context key a then first_failing (proposal_message_rules G s a sender p) else Some BadSignature)
          ≡ (if is_frame_signed K s.context key a then first_failing (proposal_message_rules K s a sender p) else Some BadSignature)
      proposals_alike sender p key h =
          signed_alike key (first_failing (proposal_message_rules G s a sender p)) (first_failing (proposal_message_rules K s a sender p))
          (front G K (framed_content_signatures s.context key a) (proposal_signatures s.context sender p) h)
          (offers_alike s required old a sender p (back G K (framed_content_signatures s.context key a) (proposal_signatures s.context sender p) h))

      contents_alike : (i : ℕ) (x : LeafNode) (content : Content) → IsSome (leaf_at 0 s.tree i) → AgreeOn G K (content_signatures commit_signatures s.context s.known s.tree a i x content)
          → first_failing (content_rules G s required a i x content) ≡ first_failing (content_rules K s required a i x content)
      contents_alike i x (contents.Application sent) set h = refl
      contents_alike i x (contents.Proposal p) set h =
          proposals_alike (senders.Member i) p x.signature_key h
      contents_alike i x (contents.Commit c) set h =
          let items = commit_signatures s.context s.tree i c (resolved (senders.Member i) s.known c.proposals) in
          signed_alike x.signature_key (first_failing (commit_rules G s required i c)) (first_failing (commit_rules K s required i c))
          (front G K (framed_content_signatures s.context x.signature_key a) items h)
          (commits_alike i c set (back G K (framed_content_signatures s.context x.signature_key a) items h))

      leaves_alike : (i : ℕ) (o : Option LeafNode) → leaf_at 0 s.tree i ≡ o → AgreeOn G K (member_signatures commit_signatures s.context s.known s.tree a i o)
          → first_failing (leaf_rules G s required a i o) ≡ first_failing (leaf_rules K s required a i o)
      leaves_alike i None e h = refl
      leaves_alike i (Some x) e h = contents_alike i x a.content.content (ap is_some e) h

      -- a proposal of a sender outside the group, who may send it or not
      allowed_alike : (sender : Sender) (p : Proposal) (key : List ℕ) (b : Bool)
          → AgreeOn G K (if b then framed_content_signatures s.context key a ++ proposal_signatures s.context sender p else [])
          → first_failing (rule SenderContent b ∷ signed_proposal_rules G s a sender p (Some key))
          ≡ first_failing (rule SenderContent b ∷ signed_proposal_rules K s a sender p (Some key))
      allowed_alike sender p key true h = proposals_alike sender p key h
      allowed_alike sender p key false h = refl

      -- the signatures of its content, under a key if there is one
      abbrev keyed_signatures : Sender → Option (List ℕ) → Content → List SignatureToVerify
      keyed_signatures sender None content = []
      keyed_signatures sender (Some key) content = outside_content_signatures s.context a sender key content

      outside_contents_alike : (sender : Sender) (o : Option (List ℕ)) (content : Content) → AgreeOn G K (keyed_signatures sender o content)
          → first_failing (outside_content_rules G s a sender o content) ≡ first_failing (outside_content_rules K s a sender o content)
      outside_contents_alike sender o (contents.Application sent) h = refl
      outside_contents_alike sender None (contents.Proposal p) h = refl
      outside_contents_alike sender (Some key) (contents.Proposal p) h = allowed_alike sender p key (may_propose sender p) h
      outside_contents_alike sender o (contents.Commit c) h = refl

      under_key : (sender : Sender) (o : Option (List ℕ)) → AgreeOn G K (outside_signatures s.context a sender o) → AgreeOn G K (keyed_signatures sender o a.content.content)
      under_key sender None h = h
      under_key sender (Some key) h = h

      outsides_alike : (profile : Profile) (sender : Sender) → AgreeOn G K (in_full profile (outside_signatures s.context a sender (outside_key s.context sender a.content.content)))
          → first_failing (if_full profile (outside_rules G s a sender)) ≡ first_failing (if_full profile (outside_rules K s a sender))
      outsides_alike Members sender h = refl
      outsides_alike Full sender h =
          passing UnknownExternal (is_known_external s.context.extensions sender)
          (first_failing (outside_content_rules G s a sender (outside_key s.context sender a.content.content) a.content.content))
          (first_failing (outside_content_rules K s a sender (outside_key s.context sender a.content.content) a.content.content))
          (λ _. outside_contents_alike sender (outside_key s.context sender a.content.content) a.content.content (under_key sender (outside_key s.context sender a.content.content) h))

      -- a client that joins with a commit
      signed_commits_alike : (c : Commit) (o : Option UpdatePath) → c.path ≡ o → AgreeOn G K (join_signatures s.context s.tree a c o)
          → first_failing (signed_commit_rules G s required a c o) ≡ first_failing (signed_commit_rules K s required a c o)
      signed_commits_alike c None e h = refl
      signed_commits_alike c (Some path) e h =
          let frame = framed_content_signatures s.context path.leaf_node.signature_key a in
          let rest = join_list_signatures s.context s.tree c path in
          signed_alike path.leaf_node.signature_key (first_failing (external_commit_rules G s required c)) (first_failing (external_commit_rules K s required c))
          (front G K frame rest h) (externals_alike c path e (back G K frame rest h))

      join_contents_alike : (content : Content) → AgreeOn G K (join_content_signatures s.context s.tree a content)
          → first_failing (joiner_rules G s required a content) ≡ first_failing (joiner_rules K s required a content)
      join_contents_alike (contents.Application sent) h = refl
      join_contents_alike (contents.Proposal p) h = refl
      join_contents_alike (contents.Commit c) h = signed_commits_alike c c.path refl h

      joiners_alike : (profile : Profile) → AgreeOn G K (in_full profile (join_content_signatures s.context s.tree a a.content.content))
          → first_failing (if_full profile (joiner_rules G s required a a.content.content)) ≡ first_failing (if_full profile (joiner_rules K s required a a.content.content))
      joiners_alike Members h = refl
      joiners_alike Full h = join_contents_alike a.content.content h

      senders_alike : (sender : Sender) → AgreeOn G K (sender_signatures commit_signatures s.profile s.context s.known s.tree a sender)
          → first_failing (sender_rules G s required a sender) ≡ first_failing (sender_rules K s required a sender)
      senders_alike (senders.Member i) h = leaves_alike i (leaf_at 0 s.tree i) refl h
      senders_alike (senders.External j) h = outsides_alike s.profile (senders.External j) h
      senders_alike senders.NewMemberProposal h = outsides_alike s.profile senders.NewMemberProposal h
      senders_alike senders.NewMemberCommit h = joiners_alike s.profile h

      frames_alike : (not s.ended ≡ true → AgreeOn G K (if bytes_eq a.content.group_id s.context.group_id && a.content.epoch == s.context.epoch
          then sender_signatures commit_signatures s.profile s.context s.known s.tree a a.content.sender else []))
          → first_failing (frame_rules G s required a) ≡ first_failing (frame_rules K s required a)
      frames_alike h =
          gated (bytes_eq a.content.group_id s.context.group_id) (a.content.epoch == s.context.epoch) (not s.ended)
          (first_failing (sender_rules G s required a a.content.sender)) (first_failing (sender_rules K s required a a.content.sender))
          (λ e going. senders_alike a.content.sender
          (given G K (bytes_eq a.content.group_id s.context.group_id && a.content.epoch == s.context.epoch)
          (sender_signatures commit_signatures s.profile s.context s.known s.tree a a.content.sender) e (h going)))

    pub messages_alike : (m : Message) → (not s.ended ≡ true → AgreeOn G K (all_message_signatures commit_signatures s.profile s.context s.known s.tree m)) → first_failing (message_rules G s required m) ≡ first_failing (message_rules K s required m)
    messages_alike (messages.Public m) h = frames_alike m.auth h
    messages_alike (messages.Unread w b) h = refl
    messages_alike (messages.GroupInfo g) h = refl
    messages_alike (messages.KeyPackage k) h = refl

pub decide_refusals : SignaturesDetermineRefusal
decide_refusals G K s required m needed old =
    all_alike G K s required m (messages_alike G K s required old m
    (λ going. from_deduplicated G K (all_message_signatures commit_signatures s.profile s.context s.known s.tree m)
    (while_open G K s.ended (message_signatures s.profile s.context s.known s.tree m) going needed)))
