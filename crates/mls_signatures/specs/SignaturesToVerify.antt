-- Which signatures have to be verified: those of a start (RFC 9420, 12.4.3.1), those of a resumption from a stored state (own
-- rule), and those of a message of a group (5.1.2, 6.1, 7.2, 10.1, 12.1.8). No checker is an argument, so they depend on no
-- verification. Some may be listed that no rule checks, as if another rule refuses the message before.
-- Used by contracts. `suite` and `group_id`: those of the group's context.
use Rattle.std.specs.Prelude.{ℕ, ◌+◌, ◌==◌, ◌&&◌, not, if◌then◌else◌, Bool, false, List, [], ◌∷◌, ◌++◌, filter, Option, Some, None, codes}
use Rattle.std.specs.List.{list_any}
use Rattle.std.specs.Str.{bytes_eq}
use Rattle.mls_nodes.specs.declared.context.GroupContext.{GroupContext}
use Rattle.mls_nodes.specs.declared.leaf.LeafNode.{LeafNode}
use Rattle.mls_nodes.specs.LeafNodeTBS.{leaf_tbs}
use Rattle.mls_tree.specs.Tree.{Tree, leaf, branch, leaf_count, leaf_at}
use Rattle.mls_tree.specs.TreeOperations.{added_leaf}
use Rattle.mls_hash.specs.Suites.{is_supported}
use Rattle.mls_check.specs.Signatures.{sign_content}
use Rattle.mls_msgs.specs.Tbs.{content_label, content_tbs, package_label, package_tbs, info_label, info_tbs}
use Rattle.mls_msgs.specs.declared.authenticated.AuthenticatedParts.{AuthenticatedParts}
use Rattle.mls_msgs.specs.declared.commit.Commit.{Commit}
use Rattle.mls_msgs.specs.declared.commit.UpdatePath.{UpdatePath}
use Rattle.mls_msgs.specs.declared.framed_content.Content.{Content}
use Rattle.mls_msgs.specs.declared.framed_content.Content.TheVariants as contents
use Rattle.mls_msgs.specs.declared.framed_content.Sender.{Sender}
use Rattle.mls_msgs.specs.declared.framed_content.Sender.TheVariants as senders
use Rattle.mls_msgs.specs.declared.group_info.GroupInfo.{GroupInfo}
use Rattle.mls_msgs.specs.declared.key_package.KeyPackage.{KeyPackage}
use Rattle.mls_msgs.specs.declared.message.Message.{Message}
use Rattle.mls_msgs.specs.declared.message.Message.TheVariants as messages
use Rattle.mls_msgs.specs.declared.proposal.Proposal.{Proposal}
use Rattle.mls_msgs.specs.declared.proposal.Proposal.TheVariants as proposals
use Rattle.mls_msgs.specs.declared.profile.Profile.{Profile}
use Rattle.mls_msgs.specs.declared.profile.Profile.TheVariants.{Members, Full}
use Rattle.mls_msgs.specs.declared.proposal.ProposalOrRef.{ProposalOrRef}
use Rattle.mls_msgs.specs.declared.proposal.ProposalOrRef.TheVariants as entries
use Rattle.mls_apply.specs.PendingContent.{authenticated_of}
use Rattle.mls_apply.specs.declared.list_item.KnownProposal.{KnownProposal}
use Rattle.mls_apply.specs.declared.list_item.ListItem.{ListItem}
use Rattle.mls_apply.specs.ResolvedList.{resolved}
use Rattle.mls_apply.specs.JoinRules.{is_join_list, join_items}
use Rattle.mls_apply.specs.ListRules.{replaced_leaf}
use Rattle.mls_apply.specs.ProposalRules.{is_from_key_package}
use Rattle.mls_apply.specs.AppliedList.{AppliedTree, outcome}
use Rattle.mls_apply.specs.Senders.{member_index}
use Rattle.mls_signatures.specs.SigningKeys.{signed_context, signing_key, outside_key, may_propose}
use Rattle.mls_signatures.specs.declared.signature_to_verify.SignatureToVerify.{SignatureToVerify}

-- ---- the signature of one thing that is signed, if it has one

-- `sign_content_signatures suite key signature content` is the signature over a SignContent (RFC 9420, 5.1.2). Empty if there
-- is no SignContent.
abbrev pub sign_content_signatures : ℕ → List ℕ → List ℕ → Option (List ℕ) → List SignatureToVerify
sign_content_signatures suite key signature None = []
sign_content_signatures suite key signature (Some content) =
    record { suite = suite; key = key; content = content; signature = signature } ∷ []

-- `labeled_signatures suite key label tbs signature` is the signature over `tbs` under a label (RFC 9420, 5.1.2). Empty if
-- `tbs` or its SignContent has no encoding.
abbrev pub labeled_signatures : ℕ → List ℕ → List ℕ → Option (List ℕ) → List ℕ → List SignatureToVerify
labeled_signatures suite key label None signature = []
labeled_signatures suite key label (Some tbs) signature =
    sign_content_signatures suite key signature (sign_content label tbs)

-- `leaf_signatures suite group_id i x` is the signature of the leaf node `x` at leaf index i (RFC 9420, 7.2).
abbrev pub leaf_signatures : ℕ → List ℕ → ℕ → LeafNode → List SignatureToVerify
leaf_signatures suite group_id i x =
    labeled_signatures suite x.signature_key (codes "MLS 1.0 LeafNodeTBS")
    (leaf_tbs x group_id i) x.signature

-- `package_signatures suite k` is the signature of a KeyPackage (RFC 9420, 10.1).
abbrev pub package_signatures : ℕ → KeyPackage → List SignatureToVerify
package_signatures suite k =
    labeled_signatures suite k.leaf_node.signature_key package_label (package_tbs k) k.signature

-- `key_package_signatures k` is the signatures of a KeyPackage in any group of its cipher suite: that of its leaf node, then its
-- own (RFC 9420, 7.2 and 10.1). What the leaf node of a KeyPackage signs has no group id and no leaf index.
abbrev pub key_package_signatures : KeyPackage → List SignatureToVerify
key_package_signatures k =
    leaf_signatures k.cipher_suite [] 0 k.leaf_node ++ package_signatures k.cipher_suite k

-- `framed_content_signatures context key a` is the signature of an AuthenticatedContent under a key. `signed_context` says
-- whether the GroupContext is signed too (RFC 9420, 6.1).
abbrev pub framed_content_signatures : GroupContext → List ℕ → AuthenticatedParts → List SignatureToVerify
framed_content_signatures context key a =
    labeled_signatures context.cipher_suite key content_label
    (content_tbs a (signed_context context a.content.sender)) a.signature

-- `info_signatures info x` is the signature of a GroupInfo under the key of its signer's leaf `x` (RFC 9420, 12.4.3). Empty if
-- the leaf is blank.
abbrev pub info_signatures : GroupInfo → Option LeafNode → List SignatureToVerify
info_signatures info None = []
info_signatures info (Some x) =
    labeled_signatures info.context.cipher_suite x.signature_key info_label
    (info_tbs info) info.signature

-- ---- the signatures of the leaves of a tree

-- `non_blank_leaf_signatures suite group_id i x` is the signature of the leaf at leaf index i. Empty if the leaf is blank.
abbrev pub non_blank_leaf_signatures : ℕ → List ℕ → ℕ → Option LeafNode → List SignatureToVerify
non_blank_leaf_signatures suite group_id i None = []
non_blank_leaf_signatures suite group_id i (Some x) = leaf_signatures suite group_id i x

-- `tree_signatures suite group_id first t` is the signatures of all leaves of a tree whose first leaf is `first`, from left to
-- right.
abbrev pub tree_signatures : ℕ → List ℕ → ℕ → Tree → List SignatureToVerify
tree_signatures suite group_id first (leaf x) = non_blank_leaf_signatures suite group_id first x
tree_signatures suite group_id first (branch l _ r) =
    tree_signatures suite group_id first l ++
    tree_signatures suite group_id (first + leaf_count l) r

-- `signatures_at suite group_id t js` is the signatures of the leaves at the leaf indices `js`, in this order.
abbrev pub signatures_at : ℕ → List ℕ → Tree → List ℕ → List SignatureToVerify
signatures_at suite group_id t [] = []
signatures_at suite group_id t (j ∷ js) =
    non_blank_leaf_signatures suite group_id j (leaf_at 0 t j) ++ signatures_at suite group_id t js

-- ---- without duplicates

-- `is_same a b`: the two signatures are equal, with their suites, keys and contents.
abbrev pub is_same : SignatureToVerify → SignatureToVerify → Bool
is_same a b =
    a.suite == b.suite && bytes_eq a.key b.key && bytes_eq a.content b.content
    && bytes_eq a.signature b.signature

-- `without_signature a qs` is the signatures of `qs` that are not equal to `a`.
abbrev pub without_signature : SignatureToVerify → List SignatureToVerify → List SignatureToVerify
without_signature a qs = filter (λ q. not (is_same a q)) qs

-- `deduplicated qs` is the list without the signatures that are equal to an earlier one.
abbrev pub deduplicated : List SignatureToVerify → List SignatureToVerify
deduplicated [] = []
deduplicated (q ∷ qs) = q ∷ without_signature q (deduplicated qs)

-- ---- the signatures of a start (RFC 9420, 12.4.3.1)

-- `is_supported_context context`: the version and the cipher suite of the context are supported (RFC 9420, 6 and 17.1).
abbrev pub is_supported_context : GroupContext → Bool
is_supported_context context =
    context.version == 1 && is_supported context.cipher_suite

-- `is_supported_info info`: those of the GroupInfo's context are supported.
abbrev pub is_supported_info : GroupInfo → Bool
is_supported_info info = is_supported_context info.context

-- `all_start_signatures info t` is the signature of the GroupInfo, then each leaf's from left to right. Empty if the version or
-- the cipher suite is not supported.
abbrev pub all_start_signatures : GroupInfo → Tree → List SignatureToVerify
all_start_signatures info t =
    if is_supported_info info
    then info_signatures info (leaf_at 0 t info.signer) ++
    tree_signatures info.context.cipher_suite info.context.group_id 0 t
    else []

-- `start_signatures info t` is the signatures of a start from a GroupInfo and a tree, without duplicates.
abbrev pub start_signatures : GroupInfo → Tree → List SignatureToVerify
start_signatures info t = deduplicated (all_start_signatures info t)

-- ---- the signatures of proposals (RFC 9420, 12.1)

-- `update_signatures context sender x` is the signature of the leaf node of an Update, at the leaf index of its sender
-- (RFC 9420, 7.2 and 12.1.2). Empty if the sender is no member.
abbrev pub update_signatures : GroupContext → Option ℕ → LeafNode → List SignatureToVerify
update_signatures context None x = []
update_signatures context (Some i) x = leaf_signatures context.cipher_suite context.group_id i x

-- `proposal_signatures context sender p` is the signatures of a proposal. An Add has those of its leaf node and of its
-- KeyPackage (RFC 9420, 12.1.1), an Update that of its leaf node (12.1.2), other proposals have none.
abbrev pub proposal_signatures : GroupContext → Sender → Proposal → List SignatureToVerify
proposal_signatures context sender (proposals.Add k) =
    leaf_signatures context.cipher_suite context.group_id 0 k.leaf_node ++
    package_signatures context.cipher_suite k
proposal_signatures context sender (proposals.Update x) = update_signatures context (member_index sender) x
proposal_signatures context sender (proposals.Remove _) = []
proposal_signatures context sender (proposals.ContextExtensions _) = []
proposal_signatures context sender (proposals.PreSharedKey _) = []
proposal_signatures context sender (proposals.ReInit _) = []
proposal_signatures context sender (proposals.ExternalInit _) = []

-- `entry_signatures context committer e` is the signatures of an entry that is a proposal by value (RFC 9420, 12.4). Empty for
-- a reference.
abbrev pub entry_signatures : GroupContext → Sender → ProposalOrRef → List SignatureToVerify
entry_signatures context committer (entries.Proposal p) = proposal_signatures context committer p
entry_signatures context committer (entries.Reference _) = []

-- `pending_proposal_signatures context k key` is the signature of the AuthenticatedContent of a pending proposal under the key of
-- its sender (RFC 9420, 6.1), then those of the proposal. Empty if the sender has no key.
abbrev pub pending_proposal_signatures : GroupContext → KnownProposal → Option (List ℕ) → List SignatureToVerify
pending_proposal_signatures context k None = []
pending_proposal_signatures context k (Some key) =
    framed_content_signatures context key (authenticated_of context k) ++ proposal_signatures context k.sender k.proposal

-- `pending_signatures context t known` is the signatures of the pending proposals, in their order.
abbrev pub pending_signatures : GroupContext → Tree → List KnownProposal → List SignatureToVerify
pending_signatures context t [] = []
pending_signatures context t (k ∷ ks) =
    pending_proposal_signatures context k (signing_key context t k.sender (contents.Proposal k.proposal))
    ++ pending_signatures context t ks

-- `entries_signatures context committer es` is the signatures of the entries of a Commit, in their order.
abbrev pub entries_signatures : GroupContext → Sender → List ProposalOrRef → List SignatureToVerify
entries_signatures context committer [] = []
entries_signatures context committer (e ∷ es) =
    entry_signatures context committer e ++ entries_signatures context committer es

-- ---- the signatures of a resumption, in a state with a context, a tree and pending proposals (own rule)

-- `all_resumption_signatures context t known` is each leaf's signature from left to right, then those of the pending
-- proposals. Empty if the version or the cipher suite is not supported.
abbrev pub all_resumption_signatures : GroupContext → Tree → List KnownProposal → List SignatureToVerify
all_resumption_signatures context t ks =
    if is_supported_context context
    then tree_signatures context.cipher_suite context.group_id 0 t ++ pending_signatures context t ks
    else []

-- `resumption_signatures context t known` is the signatures of a resumption, without duplicates.
abbrev pub resumption_signatures : GroupContext → Tree → List KnownProposal → List SignatureToVerify
resumption_signatures context t ks = deduplicated (all_resumption_signatures context t ks)

-- ---- the signatures of the leaves that a commit adds or replaces (RFC 9420, 7.3 and 12.4.2)

-- `index_before j js` is the index `j`, if there is one, followed by `js`.
abbrev pub index_before : Option ℕ → List ℕ → List ℕ
index_before None js = js
index_before (Some j) js = j ∷ js

-- `replaced_leaves items` is the leaf indices that the Updates of a list replace, in the order of the list.
abbrev pub replaced_leaves : List ListItem → List ℕ
replaced_leaves [] = []
replaced_leaves (x ∷ xs) =
    index_before (replaced_leaf x.sender x.proposal) (replaced_leaves xs)

-- `new_leaves items g` is the leaf indices that a proposal list replaces, then those that it adds.
abbrev pub new_leaves : List ListItem → AppliedTree → List ℕ
new_leaves items g = replaced_leaves items ++ g.added

-- `depends_on_index x`: what the leaf node signs has its leaf index. It has none if the leaf node is from a KeyPackage
-- (RFC 9420, 7.2), or if the leaf is blank.
abbrev pub depends_on_index : Option LeafNode → Bool
depends_on_index None = false
depends_on_index (Some x) = not (is_from_key_package x.source)

-- `is_fresh_leaf added t j`: an Add put the leaf node of leaf j of the tree `t` there, and the leaf node signs its leaf index.
-- `added` is the added leaf indices.
abbrev pub is_fresh_leaf : List ℕ → Tree → ℕ → Bool
is_fresh_leaf added t j = list_any (λ k. k == j) added && depends_on_index (leaf_at 0 t j)

-- `fresh_leaves items g` is those of the new leaves whose signature is not one of a proposal of the list. These are only leaves
-- of Adds that are not from a KeyPackage, which no rule accepts (RFC 9420, 10.1): an Update's leaf node signs the leaf index
-- that its sender has.
abbrev pub fresh_leaves : List ListItem → AppliedTree → List ℕ
fresh_leaves items g = filter (is_fresh_leaf g.added g.tree) (new_leaves items g)

-- Which of the leaf indices that a list replaces or adds are listed: `new_leaves` or `fresh_leaves`.
abbrev pub ListedLeaves : Type 0
ListedLeaves = List ListItem → AppliedTree → List ℕ

-- `path_signatures context i path` is the signature of the leaf node of an UpdatePath of member i (RFC 9420, 7.6). Empty without
-- a path.
abbrev pub path_signatures : GroupContext → ℕ → Option UpdatePath → List SignatureToVerify
path_signatures context i None = []
path_signatures context i (Some path) =
    leaf_signatures context.cipher_suite context.group_id i path.leaf_node

-- `applied_list_signatures leaves context i path items g` is the signatures of the leaves at `leaves items g`, as they are in
-- the tree after the list, then that of the path's leaf node. Empty if there is no such tree.
abbrev pub applied_list_signatures : ListedLeaves → GroupContext → ℕ → Option UpdatePath → List ListItem
    → Option AppliedTree → List SignatureToVerify
applied_list_signatures leaves context i path items None = []
applied_list_signatures leaves context i path items (Some g) =
    signatures_at context.cipher_suite context.group_id g.tree (leaves items g) ++
    path_signatures context i path

-- ---- the signatures of a message, for a context, pending proposals and a tree

-- The signatures of a Commit of a member, for a context, a tree, the leaf index of the member, the Commit, and its proposal
-- list: `commit_signatures` or `fresh_commit_signatures`.
abbrev pub CommitSignatures : Type 0
CommitSignatures = GroupContext → Tree → ℕ → Commit → Option (List ListItem) → List SignatureToVerify

-- `list_signatures leaves context t i c items` is the signatures of a Commit of member i with the proposal list `items`. They are
-- those of its proposals by value, then those of the leaves at `leaves items`, then that of its path. Empty if a reference is
-- unknown.
abbrev pub list_signatures : ListedLeaves → GroupContext → Tree → ℕ → Commit → Option (List ListItem)
    → List SignatureToVerify
list_signatures leaves context t i c None = []
list_signatures leaves context t i c (Some items) =
    entries_signatures context (senders.Member i) c.proposals ++
    applied_list_signatures leaves context i c.path items (outcome items t)

-- `commit_signatures context t i c items` is those of its proposals by value, then those of all leaves that it replaces or adds.
abbrev pub commit_signatures : CommitSignatures
commit_signatures = list_signatures new_leaves

-- `fresh_commit_signatures context t i c items` is those of its proposals by value, then that of its path. Of the leaves that
-- it replaces or adds only those are listed whose signature is not one of a proposal.
abbrev pub fresh_commit_signatures : CommitSignatures
fresh_commit_signatures = list_signatures fresh_leaves

-- `content_signatures commits context known t a i x content` is the signatures of what member i, whose leaf is `x`, has sent.
-- They are that of the message, then those of the proposal or the Commit. Application data has none.
abbrev pub content_signatures : CommitSignatures → GroupContext → List KnownProposal → Tree → AuthenticatedParts → ℕ → LeafNode
    → Content → List SignatureToVerify
content_signatures commits context known t a i x (contents.Application _) = []
content_signatures commits context known t a i x (contents.Proposal p) =
    framed_content_signatures context x.signature_key a ++ proposal_signatures context (senders.Member i) p
content_signatures commits context known t a i x (contents.Commit c) =
    framed_content_signatures context x.signature_key a
    ++ commits context t i c (resolved (senders.Member i) known c.proposals)

-- `member_signatures commits context known t a i x` is the signatures of what member i has sent. Empty if its leaf `x` is blank.
abbrev pub member_signatures : CommitSignatures → GroupContext → List KnownProposal → Tree → AuthenticatedParts → ℕ
    → Option LeafNode → List SignatureToVerify
member_signatures commits context known t a i None = []
member_signatures commits context known t a i (Some x) = content_signatures commits context known t a i x a.content.content

-- `outside_proposal_signatures context a sender key p` is the signatures of a proposal of a sender outside the group: that of
-- the message under the sender's key, then those of the proposal. Empty if the sender may not send it (RFC 9420, 12.1.8).
abbrev pub outside_proposal_signatures : GroupContext → AuthenticatedParts → Sender → List ℕ → Proposal
    → List SignatureToVerify
outside_proposal_signatures context a sender key p =
    if may_propose sender p
    then framed_content_signatures context key a ++ proposal_signatures context sender p
    else []

-- `outside_content_signatures context a sender key content` is the signatures of what a sender outside the group has sent under
-- a key. Empty if the content is no proposal.
abbrev pub outside_content_signatures : GroupContext → AuthenticatedParts → Sender → List ℕ → Content
    → List SignatureToVerify
outside_content_signatures context a sender key (contents.Application _) = []
outside_content_signatures context a sender key (contents.Proposal p) =
    outside_proposal_signatures context a sender key p
outside_content_signatures context a sender key (contents.Commit _) = []

-- `outside_signatures context a sender key` is the signatures of what a sender outside the group has sent. Empty without a key.
abbrev pub outside_signatures : GroupContext → AuthenticatedParts → Sender → Option (List ℕ) → List SignatureToVerify
outside_signatures context a sender None = []
outside_signatures context a sender (Some key) = outside_content_signatures context a sender key a.content.content

-- `seated_signatures context path g` is the signature of the path's leaf node of a client that joins with a commit, at the leaf
-- index that it takes in the tree after the list (RFC 9420, 12.4.3.2). Empty if there is no such tree.
abbrev pub seated_signatures : GroupContext → UpdatePath → Option AppliedTree → List SignatureToVerify
seated_signatures context path None = []
seated_signatures context path (Some g) =
    leaf_signatures context.cipher_suite context.group_id (added_leaf g.tree) path.leaf_node

-- `join_list_signatures context t c path` is the signature of the path's leaf node of an external commit. Empty if its list is
-- not one of an external commit (RFC 9420, 12.4.3.2).
abbrev pub join_list_signatures : GroupContext → Tree → Commit → UpdatePath → List SignatureToVerify
join_list_signatures context t c path =
    if is_join_list c.proposals
    then seated_signatures context path (outcome (join_items c.proposals) t)
    else []

-- `join_signatures context t a c path` is the signatures of an external commit: that of the message under the key of the path's
-- leaf node, then that of the leaf node. Empty without a path.
abbrev pub join_signatures : GroupContext → Tree → AuthenticatedParts → Commit → Option UpdatePath → List SignatureToVerify
join_signatures context t a c None = []
join_signatures context t a c (Some path) =
    framed_content_signatures context path.leaf_node.signature_key a ++ join_list_signatures context t c path

-- `join_content_signatures context t a content` is the signatures of what a client that joins with a commit has sent. Empty if
-- the content is no Commit.
abbrev pub join_content_signatures : GroupContext → Tree → AuthenticatedParts → Content → List SignatureToVerify
join_content_signatures context t a (contents.Application _) = []
join_content_signatures context t a (contents.Proposal _) = []
join_content_signatures context t a (contents.Commit c) = join_signatures context t a c c.path

-- `in_full profile qs` is the signatures `qs` in the full profile. Empty in the members' profile (own rule).
abbrev pub in_full : Profile → List SignatureToVerify → List SignatureToVerify
in_full Members qs = []
in_full Full qs = qs

-- `sender_signatures commits profile context known t a sender` is the signatures of what a sender has sent (RFC 9420, 6).
abbrev pub sender_signatures : CommitSignatures → Profile → GroupContext → List KnownProposal → Tree → AuthenticatedParts
    → Sender → List SignatureToVerify
sender_signatures commits profile context known t a (senders.Member i) =
    member_signatures commits context known t a i (leaf_at 0 t i)
sender_signatures commits profile context known t a (senders.External k) =
    in_full profile (outside_signatures context a (senders.External k)
    (outside_key context (senders.External k) a.content.content))
sender_signatures commits profile context known t a senders.NewMemberProposal =
    in_full profile (outside_signatures context a senders.NewMemberProposal
    (outside_key context senders.NewMemberProposal a.content.content))
sender_signatures commits profile context known t a senders.NewMemberCommit =
    in_full profile (join_content_signatures context t a a.content.content)

-- `authenticated_signatures commits profile context known t a` is the signatures of an AuthenticatedContent. Empty if it is of
-- another group or epoch (RFC 9420, 6.1).
abbrev pub authenticated_signatures : CommitSignatures → Profile → GroupContext → List KnownProposal → Tree
    → AuthenticatedParts → List SignatureToVerify
authenticated_signatures commits profile context known t a =
    if bytes_eq a.content.group_id context.group_id && a.content.epoch == context.epoch
    then sender_signatures commits profile context known t a a.content.sender
    else []

-- `all_message_signatures commits profile context known t m` is the signatures of a message. Empty if it is no PublicMessage
-- (RFC 9420, 6.2).
abbrev pub all_message_signatures : CommitSignatures → Profile → GroupContext → List KnownProposal → Tree → Message
    → List SignatureToVerify
all_message_signatures commits profile context known t (messages.Public m) =
    authenticated_signatures commits profile context known t m.auth
all_message_signatures commits profile context known t (messages.Unread _ _) = []
all_message_signatures commits profile context known t (messages.GroupInfo _) = []
all_message_signatures commits profile context known t (messages.KeyPackage _) = []

-- `message_signatures profile context known t m` is the signatures of a message, without duplicates.
abbrev pub message_signatures : Profile → GroupContext → List KnownProposal → Tree → Message
    → List SignatureToVerify
message_signatures profile context known t m =
    deduplicated (all_message_signatures commit_signatures profile context known t m)

-- `fresh_message_signatures profile context known t m` is those of a message which no pending proposal has, without duplicates.
abbrev pub fresh_message_signatures : Profile → GroupContext → List KnownProposal → Tree → Message
    → List SignatureToVerify
fresh_message_signatures profile context known t m =
    deduplicated (all_message_signatures fresh_commit_signatures profile context known t m)
