-- A message that keeps each rule keeps it where more signatures are good: no rule asks that a signature is bad.
use Rattle.std.proofs.Common.{◌≡◌, ◌∙◌, ℕ, List, [], ◌∷◌, ◌++◌, Bool, true, false, Option, Some, None, refl, sym, subst}
use Rattle.std.specs.Prelude.{◌&&◌, is_some, option_and_then}
use Rattle.std.specs.List.{list_all}
use Rattle.mls_nodes.specs.declared.context.GroupContext.{GroupContext}
use Rattle.mls_nodes.specs.declared.leaf.LeafNode.{LeafNode}
use Rattle.mls_nodes.specs.declared.required_capabilities.RequiredCapabilities.{RequiredCapabilities}
use Rattle.mls_tree.specs.Tree.{Tree, leaf_at}
use Rattle.mls_hash.specs.SuiteHash.{hash_of}
use Rattle.mls_check.specs.LeafValidation.{is_leaf_signed, member_fault}
use Rattle.mls_check.specs.Signatures.{VerifyFn, Extends}
use Rattle.mls_check.specs.declared.members.MemberFault.{MemberFault}
use Rattle.mls_check.proofs.FirstFault.{members-faultless}
use Rattle.mls_check.proofs.Elements.{and-left, and-right}
use Rattle.mls_msgs.specs.Tbs.{content_label, content_tbs, package_label, package_tbs, info_label, info_tbs}
use Rattle.mls_msgs.specs.declared.authenticated.AuthenticatedParts.{AuthenticatedParts}
use Rattle.mls_msgs.specs.declared.commit.Commit.{Commit}
use Rattle.mls_msgs.specs.declared.commit.UpdatePath.{UpdatePath}
use Rattle.mls_msgs.specs.declared.framed_content.Content.{Content}
use Rattle.mls_msgs.specs.declared.framed_content.Content.TheVariants as contents
use Rattle.mls_msgs.specs.declared.framed_content.Sender.{Sender}
use Rattle.mls_msgs.specs.declared.framed_content.Sender.TheVariants as senders
use Rattle.mls_msgs.specs.declared.group_info.GroupInfo.{GroupInfo}
use Rattle.mls_msgs.specs.declared.key_package.KeyPackage.{KeyPackage}
use Rattle.mls_msgs.specs.declared.message.Message.{Message}
use Rattle.mls_msgs.specs.declared.message.Message.TheVariants as messages
use Rattle.mls_msgs.specs.declared.profile.Profile.{Profile}
use Rattle.mls_msgs.specs.declared.profile.Profile.TheVariants.{Members, Full}
use Rattle.mls_msgs.specs.declared.proposal.Proposal.{Proposal}
use Rattle.mls_signatures.specs.SigningKeys.{signed_context, outside_key}
use Rattle.mls_msgs.specs.declared.proposal.Proposal.TheVariants as proposals
use Rattle.mls_msgs.specs.declared.proposal.ProposalOrRef.{ProposalOrRef}
use Rattle.mls_msgs.specs.declared.proposal.ProposalOrRef.TheVariants as entries
use Rattle.mls_apply.specs.declared.list_item.ListItem.{ListItem}
use Rattle.mls_apply.specs.ResolvedList.{resolved}
use Rattle.mls_apply.specs.ListRules.{list_rules}
use Rattle.mls_apply.specs.AppliedList.{AppliedTree, outcome}
use Rattle.mls_apply.specs.ContextExtensions as extensions
use Rattle.mls_apply.specs.ProposalRules.{fits_group, is_package_signed, is_valid_add, fits_leaf, is_valid_update, is_valid_update_by, valid_if_add, valid_if_update, holds_if_by_value, all_inline}
use Rattle.mls_apply.specs.JoinRules.{path_of_join, join_items}
use Rattle.mls_apply.specs.RuleLists.{Rule, rule, first_failing}
use Rattle.mls_apply.proofs.RuleLists.{AreKept, first_failing-right, passed, passed_both, refused}
use Rattle.mls_follow.specs.State.{State}
use Rattle.mls_follow.specs.MessageRules.{is_frame_signed, proposal_message_rules, member_rules, tree_rules, CommitterTree, committer_tree, resulting, path_rules_of, committer_tree_rules, required_after, rules_with_requirements, inline_rules, proposal_list_rules, commit_rules, content_rules, leaf_rules, signed_proposal_rules, outside_content_rules, outside_rules, external_commit_rules, signed_commit_rules, joiner_rules, if_full, sender_rules, frame_rules, message_rules}
use Rattle.mls_follow.specs.Start.{is_info_signed}
use Rattle.mls_follow.specs.RisingRuns.{AcceptancesStay, StartsStay}
use Rattle.mls_follow.proofs.SignatureAgreement.{text_stays, leaf_stays, members_stay}
use Rattle.mls_follow.proofs.StrictLists.{both_kept, plain_kept, strict_kept}

-- ---- tests and rules in a list

pub both_stay : (a b c d : Bool) → (a ≡ true → c ≡ true) → (b ≡ true → d ≡ true) → (a && b) ≡ true → (c && d) ≡ true
both_stay a b c d f g e = joined c d (f (and-left a b e)) (g (and-right a b e))
  where
    joined : (x y : Bool) → x ≡ true → y ≡ true → (x && y) ≡ true
    joined x y p q = λ i. p i && q i

pub first_stays : {E : Type 0} {r : E} {b c : Bool} {rs qs : List (Rule E)} → (b ≡ true → c ≡ true) → (AreKept rs → AreKept qs)
    → AreKept (rule r b ∷ rs) → AreKept (rule r c ∷ qs)
first_stays {r = r} {c = c} {qs = qs} f rest h =
    let p = passed h in record { none = holding r c qs (f p.0) (rest p.1).none }
  where
    holding : {E : Type 0} (r : E) (c : Bool) (qs : List (Rule E)) → c ≡ true → first_failing qs ≡ None → first_failing (rule r c ∷ qs) ≡ None
    holding r true qs e h = h
    holding r false qs e h = absurd (cc)

lists_stay : {E : Type 0} (xs ys ps qs : List (Rule E)) → (AreKept xs → AreKept ps) → (AreKept ys → AreKept qs)
    → AreKept (xs ++ ys) → AreKept (ps ++ qs)
lists_stay xs ys ps qs f g h =
    let p = passed_both xs ys h in
    record { none = first_failing-right ps qs (f p.0).none ∙ (g p.1).none }

-- a rule for members stays where they have no fault any more
faultless_stays : (o p : Option MemberFault) → (o ≡ None → p ≡ None) → AreKept (member_rules o) → AreKept (member_rules p)
faultless_stays None p f h = subst (λ (v : Option MemberFault). AreKept (member_rules v)) (sym (f refl)) h
faultless_stays (Some x) p f h = absurd (refused h)

module _ (G K : VerifyFn) (more : Extends G K) where
  -- ---- signatures

  package_stays : (suite : ℕ) (k : KeyPackage) → is_package_signed G suite k ≡ true → is_package_signed K suite k ≡ true
  unfolding is_package_signed
  package_stays suite k e = text_stays G K more suite k.leaf_node.signature_key package_label (package_tbs k) k.signature e

  frame_stays : (context : GroupContext) (key : List ℕ) (a : AuthenticatedParts) → is_frame_signed G context key a ≡ true → is_frame_signed K context key a ≡ true
  unfolding is_frame_signed
  frame_stays context key a e =
      text_stays G K more context.cipher_suite key content_label (content_tbs a (signed_context context a.content.sender)) a.signature e

  info_stays : (info : GroupInfo) (x : LeafNode) → is_info_signed G info x ≡ true → is_info_signed K info x ≡ true
  unfolding is_info_signed
  info_stays info x e = text_stays G K more info.context.cipher_suite x.signature_key info_label (info_tbs info) info.signature e

  -- ---- proposals

  add_stays : (context : GroupContext) (k : KeyPackage) → is_valid_add G context k ≡ true → is_valid_add K context k ≡ true
  unfolding is_valid_add
  add_stays context k e =
      let leaf_G = is_leaf_signed G context.cipher_suite context.group_id 0 k.leaf_node in
      let leaf_K = is_leaf_signed K context.cipher_suite context.group_id 0 k.leaf_node in
      both_stay (fits_group context k && leaf_G) (is_package_signed G context.cipher_suite k)
      (fits_group context k && leaf_K) (is_package_signed K context.cipher_suite k)
      (both_stay (fits_group context k) leaf_G (fits_group context k) leaf_K (λ h. h)
      (leaf_stays G K more context.cipher_suite context.group_id 0 k.leaf_node))
      (package_stays context.cipher_suite k) e

  update_stays : (context : GroupContext) (i : ℕ) (present : Option LeafNode) (x : LeafNode)
      → is_valid_update G context i present x ≡ true → is_valid_update K context i present x ≡ true
  unfolding is_valid_update
  update_stays context i present x e =
      both_stay (fits_leaf present x) (is_leaf_signed G context.cipher_suite context.group_id i x)
      (fits_leaf present x) (is_leaf_signed K context.cipher_suite context.group_id i x) (λ h. h)
      (leaf_stays G K more context.cipher_suite context.group_id i x) e

  pub adds_stay : (context : GroupContext) (p : Proposal) → valid_if_add G context p ≡ true → valid_if_add K context p ≡ true
  adds_stay context (proposals.Add k) e = add_stays context k e
  adds_stay context (proposals.Update x) e = e
  adds_stay context (proposals.Remove i) e = e
  adds_stay context (proposals.ContextExtensions es) e = e
  adds_stay context (proposals.PreSharedKey k) e = e
  adds_stay context (proposals.ReInit r) e = e
  adds_stay context (proposals.ExternalInit o) e = e

  update_by_stays : (context : GroupContext) (t : Tree) (sender : Sender) (x : LeafNode)
      → is_valid_update_by G context t sender x ≡ true → is_valid_update_by K context t sender x ≡ true
  update_by_stays context t (senders.Member i) x e = update_stays context i (leaf_at 0 t i) x e
  update_by_stays context t (senders.External k) x e = e
  update_by_stays context t senders.NewMemberProposal x e = e
  update_by_stays context t senders.NewMemberCommit x e = e

  pub updates_stay : (context : GroupContext) (t : Tree) (sender : Sender) (p : Proposal) → valid_if_update G context t sender p ≡ true
      → valid_if_update K context t sender p ≡ true
  updates_stay context t sender (proposals.Add k) e = e
  updates_stay context t sender (proposals.Update x) e = update_by_stays context t sender x e
  updates_stay context t sender (proposals.Remove j) e = e
  updates_stay context t sender (proposals.ContextExtensions es) e = e
  updates_stay context t sender (proposals.PreSharedKey k) e = e
  updates_stay context t sender (proposals.ReInit r) e = e
  updates_stay context t sender (proposals.ExternalInit o) e = e

inline_stays : (f g : Proposal → Bool) → ((p : Proposal) → f p ≡ true → g p ≡ true) → (es : List ProposalOrRef)
    → list_all (holds_if_by_value f) es ≡ true → list_all (holds_if_by_value g) es ≡ true
inline_stays f g each [] e = e
inline_stays f g each (entries.Proposal p ∷ es) e =
    both_stay (f p) (list_all (holds_if_by_value f) es) (g p) (list_all (holds_if_by_value g) es) (each p) (inline_stays f g each es) e
inline_stays f g each (entries.Reference r ∷ es) e = inline_stays f g each es e

all_inline_stays : (f g : Proposal → Bool) → ((p : Proposal) → f p ≡ true → g p ≡ true) → (es : List ProposalOrRef)
    → all_inline f es ≡ true → all_inline g es ≡ true
unfolding all_inline
all_inline_stays f g each es e = inline_stays f g each es e

-- ---- messages in a state

module _ (G K : VerifyFn) (more : Extends G K) (s : State) where
  offers_stay : (a : AuthenticatedParts) (sender : Sender) (p : Proposal) → AreKept (proposal_message_rules G s a sender p)
      → AreKept (proposal_message_rules K s a sender p)
  offers_stay a sender p =
      first_stays (λ e. e) (first_stays (adds_stay G K more s.context p) (first_stays (updates_stay G K more s.context s.tree sender p) (λ h. h)))

  trees_stay : (required : RequiredCapabilities) (o : Option Tree) → AreKept (tree_rules G s required o) → AreKept (tree_rules K s required o)
  trees_stay required None h = h
  trees_stay required (Some t) h =
      let suite = s.context.cipher_suite in
      let group_id = s.context.group_id in
      let faultless : member_fault G suite group_id required t ≡ None → member_fault K suite group_id required t ≡ None =
      λ e. (members-faultless K suite group_id required t).0
      (members_stay G K suite group_id required t more ((members-faultless G suite group_id required t).1 e)) in
      first_stays (λ e. e)
      (faultless_stays (member_fault G suite group_id required t) (member_fault K suite group_id required t) faultless) h

  committer_stays : (required : RequiredCapabilities) (path : Option UpdatePath) (o : Option CommitterTree)
      → AreKept (committer_tree_rules G s required path o) → AreKept (committer_tree_rules K s required path o)
  committer_stays required path None h = h
  committer_stays required path (Some q) h =
      let of_path = path_rules_of (hash_of s.context.cipher_suite) q.applied_tree q.leaf path in
      let t = resulting (hash_of s.context.cipher_suite) q.applied_tree q.leaf path in
      lists_stay of_path (tree_rules G s required t) of_path (tree_rules K s required t) (λ e. e) (trees_stay required t) h

  unders_stay : (committer : Sender) (path : Option UpdatePath) (o : Option AppliedTree) (required : Option RequiredCapabilities)
      → AreKept (rules_with_requirements G s committer path o required) → AreKept (rules_with_requirements K s committer path o required)
  unders_stay committer path o None h = h
  unders_stay committer path o (Some required) h = committer_stays required path (option_and_then (committer_tree committer) o) h

  inlines_stay : (i : ℕ) (c : Commit) → AreKept (inline_rules G s i c) → AreKept (inline_rules K s i c)
  inlines_stay i c =
      first_stays (all_inline_stays (valid_if_add G s.context) (valid_if_add K s.context) (adds_stay G K more s.context) c.proposals)
      (first_stays
      (all_inline_stays (valid_if_update G s.context s.tree (senders.Member i)) (valid_if_update K s.context s.tree (senders.Member i))
      (updates_stay G K more s.context s.tree (senders.Member i)) c.proposals) (λ h. h))

  module _ (required : RequiredCapabilities) where
    items_stay : (i : ℕ) (c : Commit) (o : Option (List ListItem)) → AreKept (proposal_list_rules G s required i c o) → AreKept (proposal_list_rules K s required i c o)
    items_stay i c None h = h
    items_stay i c (Some items) h =
        let of_list = list_rules (senders.Member i) items (is_some c.path) in
        let after = required_after required (extensions.proposed_extensions items) in
        let under_G = rules_with_requirements G s (senders.Member i) c.path (outcome items s.tree) after in
        let under_K = rules_with_requirements K s (senders.Member i) c.path (outcome items s.tree) after in
        lists_stay (inline_rules G s i c) (of_list ++ under_G) (inline_rules K s i c) (of_list ++ under_K) (inlines_stay i c)
        (lists_stay of_list under_G of_list under_K (λ e. e) (unders_stay (senders.Member i) c.path (outcome items s.tree) after)) h

    commits_stay : (i : ℕ) (c : Commit) → AreKept (commit_rules G s required i c) → AreKept (commit_rules K s required i c)
    commits_stay i c = first_stays (λ e. e) (items_stay i c (resolved (senders.Member i) s.known c.proposals))

    externals_stay : (c : Commit) → AreKept (external_commit_rules G s required c) → AreKept (external_commit_rules K s required c)
    externals_stay c =
        let items = join_items c.proposals in
        let of_list = path_of_join s.context s.tree c.proposals c.path in
        let after = required_after required (extensions.proposed_extensions items) in
        let under_G = rules_with_requirements G s senders.NewMemberCommit c.path (outcome items s.tree) after in
        let under_K = rules_with_requirements K s senders.NewMemberCommit c.path (outcome items s.tree) after in
        first_stays (λ e. e)
        (lists_stay of_list under_G of_list under_K (λ e. e) (unders_stay senders.NewMemberCommit c.path (outcome items s.tree) after))

    module _ (a : AuthenticatedParts) where
      signed_commits_stay : (c : Commit) (o : Option UpdatePath) → AreKept (signed_commit_rules G s required a c o) → AreKept (signed_commit_rules K s required a c o)
      signed_commits_stay c None h = h
      signed_commits_stay c (Some path) h = first_stays (frame_stays G K more s.context path.leaf_node.signature_key a) (externals_stay c) h

      joins_stay : (content : Content) → AreKept (joiner_rules G s required a content) → AreKept (joiner_rules K s required a content)
      joins_stay (contents.Application sent) h = h
      joins_stay (contents.Proposal p) h = h
      joins_stay (contents.Commit c) h = signed_commits_stay c c.path h

      joiners_stay : (profile : Profile) → AreKept (if_full profile (joiner_rules G s required a a.content.content))
          → AreKept (if_full profile (joiner_rules K s required a a.content.content))
      joiners_stay Members h = h
      joiners_stay Full h = joins_stay a.content.content h

      contents_stay : (i : ℕ) (x : LeafNode) (content : Content) → AreKept (content_rules G s required a i x content) → AreKept (content_rules K s required a i x content)
      contents_stay i x (contents.Application sent) h = h
      contents_stay i x (contents.Proposal p) h = first_stays (frame_stays G K more s.context x.signature_key a) (offers_stay a (senders.Member i) p) h
      contents_stay i x (contents.Commit c) h = first_stays (frame_stays G K more s.context x.signature_key a) (commits_stay i c) h

      leaves_stay : (i : ℕ) (o : Option LeafNode) → AreKept (leaf_rules G s required a i o) → AreKept (leaf_rules K s required a i o)
      leaves_stay i None h = h
      leaves_stay i (Some x) h = contents_stay i x a.content.content h

      signeds_stay : (sender : Sender) (p : Proposal) (o : Option (List ℕ)) → AreKept (signed_proposal_rules G s a sender p o)
          → AreKept (signed_proposal_rules K s a sender p o)
      signeds_stay sender p None h = h
      signeds_stay sender p (Some key) h = first_stays (frame_stays G K more s.context key a) (offers_stay a sender p) h

      outside_contents_stay : (sender : Sender) (o : Option (List ℕ)) (content : Content) → AreKept (outside_content_rules G s a sender o content)
          → AreKept (outside_content_rules K s a sender o content)
      outside_contents_stay sender o (contents.Application sent) h = h
      outside_contents_stay sender o (contents.Proposal p) h = first_stays (λ e. e) (signeds_stay sender p o) h
      outside_contents_stay sender o (contents.Commit c) h = h

      outsides_stay : (profile : Profile) (sender : Sender) → AreKept (if_full profile (outside_rules G s a sender))
          → AreKept (if_full profile (outside_rules K s a sender))
      outsides_stay Members sender h = h
      outsides_stay Full sender h =
          first_stays (λ e. e) (outside_contents_stay sender (outside_key s.context sender a.content.content) a.content.content) h

      senders_stay : (sender : Sender) → AreKept (sender_rules G s required a sender) → AreKept (sender_rules K s required a sender)
      senders_stay (senders.Member i) h = leaves_stay i (leaf_at 0 s.tree i) h
      senders_stay (senders.External j) h = outsides_stay s.profile (senders.External j) h
      senders_stay senders.NewMemberProposal h = outsides_stay s.profile senders.NewMemberProposal h
      senders_stay senders.NewMemberCommit h = joiners_stay s.profile h

      frames_stay : AreKept (frame_rules G s required a) → AreKept (frame_rules K s required a)
      frames_stay = first_stays (λ e. e) (first_stays (λ e. e) (first_stays (λ e. e) (senders_stay a.content.sender)))

    -- a message that keeps every rule
    messages_stay : (m : Message) → AreKept (message_rules G s required m) → AreKept (message_rules K s required m)
    messages_stay (messages.Public m) h = frames_stay m.auth h
    messages_stay (messages.Unread w b) h = h
    messages_stay (messages.GroupInfo g) h = h
    messages_stay (messages.KeyPackage k) h = h

pub kept_stays : (G K : VerifyFn) (s : State) (required : RequiredCapabilities) (m : Message) → Extends G K
    → first_failing (message_rules G s required m) ≡ None → first_failing (message_rules K s required m) ≡ None
kept_stays G K s required m more h = (messages_stay G K more s required m (record { none = h })).none

pub acceptance_stays : AcceptancesStay
acceptance_stays G K s bytes more h = record {
  message = h.message;
  encoded = h.encoded;
  required = h.required;
  requires = h.requires;
  rules_hold =
      both_kept K s h.required h.message (kept_stays G K s h.required h.message more (plain_kept G s h.required h.message h.rules_hold))
      (strict_kept G s h.required h.message h.rules_hold);
}

pub start_stays : StartsStay
start_stays asked profile G K info supplied s more h =
    let member = h.has_signer.has_members in
    record {
      tree = h.tree;
      signer = h.signer;
      has_signer = record {
        required = h.has_signer.required;
        has_members = record {
          valid_tree = member.valid_tree;
          members = members_stay G K info.context.cipher_suite info.context.group_id h.has_signer.required h.tree.tree more member.members;
        };
        set = h.has_signer.set;
      };
      signed = info_stays G K more info h.signer h.signed;
      strict_info = h.strict_info;
      strict = h.strict;
      interim = h.interim;
      hashed = h.hashed;
      state = h.state;
    }
