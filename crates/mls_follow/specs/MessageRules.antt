-- The rules for a message, in their order (RFC 9420, 6.1, 11.2, 12.1 to 12.4). A list ends after a rule that certainly
-- fails. `s` is the state, G the verification function of the checker, H the hash function of the cipher suite, `a` the
-- AuthenticatedContent, `i` the leaf index of a sender that is a member, `required` what the group requires. Used by
-- contracts.
use Rattle.std.specs.Prelude.{ℕ, ◌==◌, nat_lt, is_some, not, if◌then◌else◌, List, [], ◌∷◌, ◌++◌, Bool, true, false, Option, Some, None, option_map, option_and_then}
use Rattle.std.specs.Str.{bytes_eq}
use Rattle.mls_nodes.specs.declared.context.GroupContext.{GroupContext}
use Rattle.mls_nodes.specs.declared.extension.Extension.{Extension}
use Rattle.mls_nodes.specs.declared.leaf.LeafNode.{LeafNode}
use Rattle.mls_nodes.specs.declared.required_capabilities.RequiredCapabilities.{RequiredCapabilities}
use Rattle.mls_nodes.specs.Limits.{leaf_limit}
use Rattle.mls_nodes.specs.Requirements.{required_by}
use Rattle.mls_tree.specs.Tree.{Tree, leaf_at, member_count}
use Rattle.mls_tree.specs.TreeOperations.{seat}
use Rattle.mls_hash.specs.SuiteHash.{hash_of, ref_hash_input}
use Rattle.mls_check.specs.DistinctKeys.{has_distinct_keys}
use Rattle.mls_check.specs.LeafValidation.{member_fault}
use Rattle.mls_check.specs.Signatures.{VerifyFn, is_signed_text}
use Rattle.mls_check.specs.declared.members.MemberFault.{MemberFault}
use Rattle.mls_msgs.specs.Authenticated.{authenticated_content}
use Rattle.mls_msgs.specs.Profile.{is_in}
use Rattle.mls_msgs.specs.Tbs.{content_label, content_tbs, reference_label}
use Rattle.mls_msgs.specs.declared.authenticated.AuthenticatedParts.{AuthenticatedParts}
use Rattle.mls_msgs.specs.declared.commit.Commit.{Commit}
use Rattle.mls_msgs.specs.declared.commit.UpdatePath.{UpdatePath}
use Rattle.mls_msgs.specs.declared.framed_content.Content.{Content}
use Rattle.mls_msgs.specs.declared.framed_content.Content.TheVariants as contents
use Rattle.mls_msgs.specs.declared.framed_content.Sender.{Sender}
use Rattle.mls_msgs.specs.declared.framed_content.Sender.TheVariants as senders
use Rattle.mls_msgs.specs.declared.message.Message.{Message}
use Rattle.mls_msgs.specs.declared.message.Message.TheVariants as messages
use Rattle.mls_msgs.specs.declared.profile.Profile.{Profile}
use Rattle.mls_msgs.specs.declared.profile.Profile.TheVariants.{Members, Full}
use Rattle.mls_msgs.specs.declared.proposal.Proposal.{Proposal}
use Rattle.mls_apply.specs.declared.list_item.ListItem.{ListItem}
use Rattle.mls_apply.specs.declared.list_item.KnownProposal.{KnownProposal}
use Rattle.mls_apply.specs.declared.refusal.Refusal.{Refusal}
use Rattle.mls_apply.specs.declared.refusal.Refusal.TheVariants as refusals
use Rattle.mls_apply.specs.declared.refusal.Refusal.TheVariants.{NotPublic, WrongGroup, WrongEpoch, SenderNotMember, NotHandshake, BadSignature, AddInvalid, UpdateInvalid, RemoveInvalid, LastEpoch, UnknownReference, PathMissing, TooManyLeaves, KeyRepeated, Member, ContextExtensionsInvalid, GroupOver, UnknownExternal, SenderContent, PskInvalid, ReInitInvalid, ExternalInitMisplaced}
use Rattle.mls_apply.specs.RuleLists.{Rule, rule}
use Rattle.mls_apply.specs.ResolvedList.{find_known, resolved}
use Rattle.mls_apply.specs.ContextExtensions.{proposed_extensions}
use Rattle.mls_apply.specs.ProposalRules.{proposal_rules, valid_if_add, valid_if_update, valid_if_remove, valid_if_extensions, valid_if_psk, valid_if_reinit, is_no_external_init, all_inline}
use Rattle.mls_apply.specs.ListRules.{list_rules}
use Rattle.mls_apply.specs.JoinRules.{path_of_join, join_items}
use Rattle.mls_apply.specs.AppliedList.{AppliedTree, applied_tree, outcome}
use Rattle.mls_apply.specs.MergePath.{merged}
use Rattle.mls_apply.specs.PathRules.{path_rules, node_keys}
use Rattle.mls_signatures.specs.SigningKeys.{signed_context, external_key, outside_key, may_propose}
use Rattle.mls_follow.specs.State.{State, last_epoch}

-- `fail_with e` is a rule that fails.
abbrev pub fail_with : Refusal → List (Rule Refusal)
fail_with e = rule e false ∷ []

-- `reference_of context a` is the ProposalRef of a proposal (RFC 9420, 5.2).
abbrev pub reference_of : GroupContext → AuthenticatedParts → Option (List ℕ)
reference_of context a =
    option_and_then
    (λ value. option_map (hash_of context.cipher_suite) (ref_hash_input reference_label value))
    (authenticated_content a)

-- `is_known_reference known reference`: some pending proposal has the reference, if there is one.
abbrev pub is_known_reference : List KnownProposal → Option (List ℕ) → Bool
is_known_reference known None = false
is_known_reference known (Some reference) = is_some (find_known known reference)

-- `is_new_proposal s a`: no pending proposal has the ProposalRef of this one (RFC 9420, 5.2; own rule).
unfoldable pub is_new_proposal : State → AuthenticatedParts → Bool
is_new_proposal s a = not (is_known_reference s.known (reference_of s.context a))

-- `is_frame_signed G context key a`: the signature of the FramedContent is good under the sender's key. The current
-- GroupContext is signed too, if the sender is a member or joins with a commit (RFC 9420, 6.1).
unfoldable pub is_frame_signed : VerifyFn → GroupContext → List ℕ → AuthenticatedParts → Bool
is_frame_signed G context key a =
    is_signed_text G context.cipher_suite key content_label
    (content_tbs a (signed_context context a.content.sender)) a.signature

-- `proposal_message_rules G s a sender p` is the rules for a proposal of this sender (RFC 9420, 12.1).
abbrev pub proposal_message_rules : VerifyFn → State → AuthenticatedParts → Sender → Proposal
    → List (Rule Refusal)
proposal_message_rules G s a sender p =
    rule refusals.KnownProposal (is_new_proposal s a) ∷
    proposal_rules G s.context s.tree sender p

-- `member_rules fault` is the rules for the leaf nodes of the tree after a commit (RFC 9420, 7.3).
abbrev pub member_rules : Option MemberFault → List (Rule Refusal)
member_rules None = []
member_rules (Some f) = fail_with (Member f)

-- `tree_rules G s required t` is the rules for the tree after a commit: distinct encryption keys and valid leaf nodes
-- (RFC 9420, 7.3 and 12.4.2). There is a tree whenever the path has the expected parent hash.
abbrev pub tree_rules : VerifyFn → State → RequiredCapabilities → Option Tree → List (Rule Refusal)
tree_rules G s required None = []
tree_rules G s required (Some t) =
    rule KeyRepeated (has_distinct_keys t) ∷
    member_rules (member_fault G s.context.cipher_suite s.context.group_id required t)

-- A tree after a commit's proposals, with the indices of the leaves that they have added, and the committer's leaf in it.
pub record CommitterTree : Type 0 where
  pub applied_tree : AppliedTree
  pub leaf : ℕ

-- `seated g` is the tree `g`, extended if it has no blank leaf, and the leaf that a client takes that joins with a commit. No
-- leaf of it is counted as added (RFC 9420, 12.4.3.2).
abbrev pub seated : AppliedTree → CommitterTree
seated g = record { applied_tree = applied_tree (seat g.tree).tree []; leaf = (seat g.tree).leaf }

-- `committer_tree committer g` is the tree in which the path of a committer is checked, from the tree after its
-- proposals: a client that joins takes the leaf of the next new member, if the group has fewer than 1,048,576 members
-- (RFC 9420, 12.4.2 and 12.4.3.2). No other senders commit.
abbrev pub committer_tree : Sender → AppliedTree → Option CommitterTree
committer_tree (senders.Member i) g = Some (record { applied_tree = g; leaf = i })
committer_tree (senders.External _) g = None
committer_tree senders.NewMemberProposal g = None
committer_tree senders.NewMemberCommit g = if nat_lt (member_count g.tree) leaf_limit then Some (seated g) else None

-- `resulting H g i path` is the tree after a commit of the client at leaf i, from the tree after its proposals (RFC 9420, 7.5
-- and 12.4.2).
abbrev pub resulting : (List ℕ → List ℕ) → AppliedTree → ℕ → Option UpdatePath → Option Tree
resulting H g i None = Some g.tree
resulting H g i (Some path) = merged H g.tree i path.leaf_node (node_keys path)

-- `changed_tree H committer path o` is the tree after a commit, from the tree after its proposals, if there is one.
abbrev pub changed_tree : (List ℕ → List ℕ) → Sender → Option UpdatePath → Option AppliedTree → Option Tree
changed_tree H committer path o =
    option_and_then (λ q. resulting H q.applied_tree q.leaf path) (option_and_then (committer_tree committer) o)

-- `path_rules_of H g i path` is the rules for a path of leaf i, if there is one (RFC 9420, 7.6, 7.9.2 and 12.4.2).
abbrev pub path_rules_of : (List ℕ → List ℕ) → AppliedTree → ℕ → Option UpdatePath → List (Rule Refusal)
path_rules_of H g i None = []
path_rules_of H g i (Some path) = path_rules H g i path

-- `committer_tree_rules G s required path q` is the rules for the path, and for the tree after it, once the committer
-- has a leaf.
abbrev pub committer_tree_rules : VerifyFn → State → RequiredCapabilities → Option UpdatePath → Option CommitterTree
    → List (Rule Refusal)
committer_tree_rules G s required path None = fail_with TooManyLeaves
committer_tree_rules G s required path (Some q) =
    path_rules_of (hash_of s.context.cipher_suite) q.applied_tree q.leaf path ++
    tree_rules G s required (resulting (hash_of s.context.cipher_suite) q.applied_tree q.leaf path)

-- `applied_tree_rules G s required committer path o` is the rules after those for the proposal list: the tree after it,
-- the committer's leaf, the path, the tree after both (RFC 9420, 12.4.2 and 12.4.3.2).
abbrev pub applied_tree_rules : VerifyFn → State → RequiredCapabilities → Sender → Option UpdatePath
    → Option AppliedTree → List (Rule Refusal)
applied_tree_rules G s required committer path o =
    committer_tree_rules G s required path (option_and_then (committer_tree committer) o)

-- `required_after required extensions` is what is required after a commit: by the extensions that its list proposes,
-- else what is required before it (RFC 9420, 11.1 and 12.1.7). `None` if it cannot be read.
abbrev pub required_after : RequiredCapabilities → Option (List Extension) → Option RequiredCapabilities
required_after required None = Some required
required_after required (Some extensions) = required_by extensions

-- `rules_with_requirements G s committer path o required` is the rules after those for the proposal list, under what is
-- then required. That this can be read was checked for each proposal. The rule here matters only in states that no
-- follower comes to.
abbrev pub rules_with_requirements : VerifyFn → State → Sender → Option UpdatePath → Option AppliedTree
    → Option RequiredCapabilities → List (Rule Refusal)
rules_with_requirements G s committer path o None = fail_with ContextExtensionsInvalid
rules_with_requirements G s committer path o (Some required) = applied_tree_rules G s required committer path o

-- `inline_rules G s i c` is the rules for the proposals that a commit includes by value (RFC 9420, 12.1 and 12.4).
abbrev pub inline_rules : VerifyFn → State → ℕ → Commit → List (Rule Refusal)
inline_rules G s i c =
    rule AddInvalid (all_inline (valid_if_add G s.context) c.proposals) ∷
    rule UpdateInvalid (all_inline (valid_if_update G s.context s.tree (senders.Member i)) c.proposals) ∷
    rule RemoveInvalid (all_inline (valid_if_remove s.tree) c.proposals) ∷
    rule ContextExtensionsInvalid (all_inline valid_if_extensions c.proposals) ∷
    rule PskInvalid (all_inline (valid_if_psk s.context (senders.Member i)) c.proposals) ∷
    rule ReInitInvalid (all_inline (valid_if_reinit s.context) c.proposals) ∷
    rule ExternalInitMisplaced (all_inline is_no_external_init c.proposals) ∷ []

-- `proposal_list_rules G s required i c items` is the rules for the proposal list of a commit: those for each proposal
-- by value, then those for the whole list (RFC 9420, 12.2 and 12.4).
abbrev pub proposal_list_rules : VerifyFn → State → RequiredCapabilities → ℕ → Commit
    → Option (List ListItem) → List (Rule Refusal)
proposal_list_rules G s required i c None = fail_with UnknownReference
proposal_list_rules G s required i c (Some items) =
    inline_rules G s i c ++
    (list_rules (senders.Member i) items (is_some c.path) ++
    rules_with_requirements G s (senders.Member i) c.path (outcome items s.tree) (required_after required (proposed_extensions items)))

-- `commit_rules G s required i c` is the rules for a commit of member i (RFC 9420, 12.4.2).
abbrev pub commit_rules : VerifyFn → State → RequiredCapabilities → ℕ → Commit → List (Rule Refusal)
commit_rules G s required i c =
    rule LastEpoch (nat_lt s.context.epoch last_epoch) ∷
    proposal_list_rules G s required i c (resolved (senders.Member i) s.known c.proposals)

-- `handshake_rules G s required a i c` is the rules for the content of a signed message of member i, if it is a
-- proposal or a commit.
abbrev pub handshake_rules : VerifyFn → State → RequiredCapabilities → AuthenticatedParts → ℕ
    → Content → Option (List (Rule Refusal))
handshake_rules G s required a i (contents.Application _) = None
handshake_rules G s required a i (contents.Proposal p) = Some (proposal_message_rules G s a (senders.Member i) p)
handshake_rules G s required a i (contents.Commit c) = Some (commit_rules G s required i c)

-- `signed_rules G context key a rules` is `rules` after the rules that the content is a proposal or a commit, and that it
-- is signed under this key (RFC 9420, 6.1).
abbrev pub signed_rules : VerifyFn → GroupContext → List ℕ → AuthenticatedParts
    → Option (List (Rule Refusal)) → List (Rule Refusal)
signed_rules G context key a None = fail_with NotHandshake
signed_rules G context key a (Some rules) =
    rule BadSignature (is_frame_signed G context key a) ∷ rules

-- `content_rules G s required a i x c` is the rules for the content of a message of member i, whose leaf is `x`
-- (RFC 9420, 6.1 and 6.2).
abbrev pub content_rules : VerifyFn → State → RequiredCapabilities → AuthenticatedParts → ℕ
    → LeafNode → Content → List (Rule Refusal)
content_rules G s required a i x content =
    signed_rules G s.context x.signature_key a (handshake_rules G s required a i content)

-- `leaf_rules G s required a i x` is the rules for a message of leaf i, which must be non-blank.
abbrev pub leaf_rules : VerifyFn → State → RequiredCapabilities → AuthenticatedParts → ℕ
    → Option LeafNode → List (Rule Refusal)
leaf_rules G s required a i None = fail_with SenderNotMember
leaf_rules G s required a i (Some x) = content_rules G s required a i x a.content.content

-- `is_known_external extensions sender`: if the sender is an external one, the GroupContext's extensions name it (RFC 9420,
-- 12.1.8).
abbrev pub is_known_external : List Extension → Sender → Bool
is_known_external extensions (senders.Member _) = true
is_known_external extensions (senders.External k) = is_some (external_key extensions k)
is_known_external extensions senders.NewMemberProposal = true
is_known_external extensions senders.NewMemberCommit = true

-- `signed_proposal_rules G s a sender p key` is the rules for a proposal that a sender outside the group may send, under
-- the sender's key: that it is signed (RFC 9420, 6.1), then those for the proposal (12.1).
abbrev pub signed_proposal_rules : VerifyFn → State → AuthenticatedParts → Sender → Proposal → Option (List ℕ)
    → List (Rule Refusal)
signed_proposal_rules G s a sender p None = fail_with SenderContent
signed_proposal_rules G s a sender p (Some key) =
    rule BadSignature (is_frame_signed G s.context key a) ∷ proposal_message_rules G s a sender p

-- `outside_content_rules G s a sender key c` is the rules for the content of a message of a sender outside the group, who
-- may send some kinds of proposals (RFC 9420, 6.1, 6.2 and 12.1.8).
abbrev pub outside_content_rules : VerifyFn → State → AuthenticatedParts → Sender → Option (List ℕ) → Content
    → List (Rule Refusal)
outside_content_rules G s a sender key (contents.Application _) = fail_with NotHandshake
outside_content_rules G s a sender key (contents.Proposal p) =
    rule SenderContent (may_propose sender p) ∷ signed_proposal_rules G s a sender p key
outside_content_rules G s a sender key (contents.Commit _) = fail_with SenderContent

-- `outside_rules G s a sender` is the rules for a message of a sender outside the group: an external sender is in the
-- GroupContext of the epoch, and then those for the content (RFC 9420, 12.1.8).
abbrev pub outside_rules : VerifyFn → State → AuthenticatedParts → Sender → List (Rule Refusal)
outside_rules G s a sender =
    rule UnknownExternal (is_known_external s.context.extensions sender) ∷
    outside_content_rules G s a sender (outside_key s.context sender a.content.content) a.content.content

-- `external_commit_rules G s required c` is the rules for a commit of a client that joins with it, after those that it has a
-- path and is signed (RFC 9420, 12.2 and 12.4.3.2).
abbrev pub external_commit_rules : VerifyFn → State → RequiredCapabilities → Commit → List (Rule Refusal)
external_commit_rules G s required c =
    rule LastEpoch (nat_lt s.context.epoch last_epoch) ∷
    (path_of_join s.context s.tree c.proposals c.path ++
    rules_with_requirements G s senders.NewMemberCommit c.path (outcome (join_items c.proposals) s.tree)
    (required_after required (proposed_extensions (join_items c.proposals))))

-- `signed_commit_rules G s required a c path` is the rules for a commit of a client that joins with it, by its path. Without
-- one there is no key under which it is signed.
abbrev pub signed_commit_rules : VerifyFn → State → RequiredCapabilities → AuthenticatedParts → Commit
    → Option UpdatePath → List (Rule Refusal)
signed_commit_rules G s required a c None = fail_with PathMissing
signed_commit_rules G s required a c (Some path) =
    rule BadSignature (is_frame_signed G s.context path.leaf_node.signature_key a) ∷
    external_commit_rules G s required c

-- `joiner_rules G s required a c` is the rules for the content of a message of a client that joins with a commit (RFC 9420,
-- 6.1, 6.2 and 12.4.3.2).
abbrev pub joiner_rules : VerifyFn → State → RequiredCapabilities → AuthenticatedParts → Content
    → List (Rule Refusal)
joiner_rules G s required a (contents.Application _) = fail_with NotHandshake
joiner_rules G s required a (contents.Proposal _) = fail_with SenderContent
joiner_rules G s required a (contents.Commit c) = signed_commit_rules G s required a c c.path

-- `is_sender_supported profile sender`: messages of the sender are processed. In the members' profile only those of
-- members are (own rule).
abbrev pub is_sender_supported : Profile → Sender → Bool
is_sender_supported profile (senders.Member _) = true
is_sender_supported profile (senders.External _) = is_in profile false
is_sender_supported profile senders.NewMemberProposal = is_in profile false
is_sender_supported profile senders.NewMemberCommit = is_in profile false

-- `if_full profile rules` is the rules for senders outside the group, whom the members' profile refuses (own rule).
abbrev pub if_full : Profile → List (Rule Refusal) → List (Rule Refusal)
if_full Members rules = fail_with SenderNotMember
if_full Full rules = rules

-- `sender_rules G s required a sender` is the rules for a message of a sender (RFC 9420, 6.1).
abbrev pub sender_rules : VerifyFn → State → RequiredCapabilities → AuthenticatedParts → Sender
    → List (Rule Refusal)
sender_rules G s required a (senders.Member i) = leaf_rules G s required a i (leaf_at 0 s.tree i)
sender_rules G s required a (senders.External k) = if_full s.profile (outside_rules G s a (senders.External k))
sender_rules G s required a senders.NewMemberProposal =
    if_full s.profile (outside_rules G s a senders.NewMemberProposal)
sender_rules G s required a senders.NewMemberCommit =
    if_full s.profile (joiner_rules G s required a a.content.content)

-- `frame_rules G s required a` is the rules for an AuthenticatedContent: the group, the epoch (RFC 9420, 6.1), that the
-- group is not over (11.2), the sender (6.1).
abbrev pub frame_rules : VerifyFn → State → RequiredCapabilities → AuthenticatedParts
    → List (Rule Refusal)
frame_rules G s required a =
    rule WrongGroup (bytes_eq a.content.group_id s.context.group_id) ∷
    rule WrongEpoch (a.content.epoch == s.context.epoch) ∷
    rule GroupOver (not s.ended) ∷
    sender_rules G s required a a.content.sender

-- `message_rules G s required m` is the rules for a message (RFC 9420, 6), which must be a PublicMessage.
abbrev pub message_rules : VerifyFn → State → RequiredCapabilities → Message → List (Rule Refusal)
message_rules G s required (messages.Public m) = frame_rules G s required m.auth
message_rules G s required (messages.Unread _ _) = fail_with NotPublic
message_rules G s required (messages.GroupInfo _) = fail_with NotPublic
message_rules G s required (messages.KeyPackage _) = fail_with NotPublic

-- The first rule that fails, for an AuthenticatedContent, for a sender, for the content of a member, for a proposal, for a
-- commit and for an external commit. Proofs about callers need not unfold these.
