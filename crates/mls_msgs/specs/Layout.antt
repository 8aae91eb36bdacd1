-- The encodings of KeyPackage, Proposal, Commit, FramedContent and GroupInfo: their fields in order (RFC 9420, 6, 7.6,
-- 8.4, 10 and 12). A value over its limits has no encoding. Used by contracts.
use Rattle.std.specs.Prelude.{ℕ, List, Option, Bool, true, false}
use Rattle.std.specs.Int.{w8, w16, w32, w64}
use Rattle.mls_wire.specs.Encoding.{◌⊕◌, number, vector, list, optional}
use Rattle.mls_nodes.specs.Extension.{extension}
use Rattle.mls_nodes.specs.Layout.{leaf, group_context}
use Rattle.mls_msgs.specs.declared.key_package.KeyPackage.{KeyPackage}
use Rattle.mls_msgs.specs.declared.proposal.Proposal.{Proposal}
use Rattle.mls_msgs.specs.declared.proposal.Proposal.TheVariants as proposals
use Rattle.mls_msgs.specs.declared.pre_shared_key.PskUsage.{PskUsage}
use Rattle.mls_msgs.specs.declared.pre_shared_key.PskUsage.TheVariants as usages
use Rattle.mls_msgs.specs.declared.pre_shared_key.PskKind.{PskKind}
use Rattle.mls_msgs.specs.declared.pre_shared_key.PskKind.TheVariants as psks
use Rattle.mls_msgs.specs.declared.pre_shared_key.PreSharedKeyId.{PreSharedKeyId}
use Rattle.mls_msgs.specs.declared.reinit.ReInit.{ReInit}
use Rattle.mls_msgs.specs.declared.proposal.ProposalOrRef.{ProposalOrRef}
use Rattle.mls_msgs.specs.declared.proposal.ProposalOrRef.TheVariants as entries
use Rattle.mls_msgs.specs.declared.ciphertexts.Ciphertext.{Ciphertext}
use Rattle.mls_msgs.specs.declared.commit.PathNode.{PathNode}
use Rattle.mls_msgs.specs.declared.commit.UpdatePath.{UpdatePath}
use Rattle.mls_msgs.specs.declared.commit.Commit.{Commit}
use Rattle.mls_msgs.specs.declared.framed_content.Sender.{Sender}
use Rattle.mls_msgs.specs.declared.framed_content.Sender.TheVariants.{Member, External, NewMemberProposal, NewMemberCommit}
use Rattle.mls_msgs.specs.declared.framed_content.Content.{Content}
use Rattle.mls_msgs.specs.declared.framed_content.Content.TheVariants as contents
use Rattle.mls_msgs.specs.declared.framed_content.FramedContent.{FramedContent}
use Rattle.mls_msgs.specs.declared.group_info.GroupInfo.{GroupInfo}

-- `key_package k` is the encoding of a KeyPackage (RFC 9420, 10).
unfoldable pub key_package : KeyPackage → Option (List ℕ)
key_package k =
    number w16 k.version ⊕ number w16 k.cipher_suite ⊕ vector k.init_key ⊕ leaf k.leaf_node
    ⊕ list extension k.extensions ⊕ vector k.signature

-- `psk_usage u` is the encoding of a ResumptionPSKUsage (RFC 9420, 8.4).
unfoldable pub psk_usage : PskUsage → Option (List ℕ)
psk_usage usages.Application = number w8 1
psk_usage usages.ReInit = number w8 2
psk_usage usages.Branch = number w8 3

-- `psk_kind k` is the encoding of a PreSharedKeyID without its nonce: its type, and its fields (RFC 9420, 8.4).
unfoldable pub psk_kind : PskKind → Option (List ℕ)
psk_kind (psks.External id) = number w8 1 ⊕ vector id
psk_kind (psks.Resumption usage group_id epoch) = number w8 2 ⊕ psk_usage usage ⊕ vector group_id ⊕ number w64 epoch

-- `psk_id p` is the encoding of a PreSharedKeyID (RFC 9420, 8.4).
unfoldable pub psk_id : PreSharedKeyId → Option (List ℕ)
psk_id p = psk_kind p.kind ⊕ vector p.nonce

-- `reinit r` is the encoding of a ReInit (RFC 9420, 12.1.5).
unfoldable pub reinit : ReInit → Option (List ℕ)
reinit r = vector r.group_id ⊕ number w16 r.version ⊕ number w16 r.cipher_suite ⊕ list extension r.extensions

-- `proposal p` is the encoding of a Proposal: its type, and its body (RFC 9420, 12.1).
unfoldable pub proposal : Proposal → Option (List ℕ)
proposal (proposals.Add k) = number w16 1 ⊕ key_package k
proposal (proposals.Update l) = number w16 2 ⊕ leaf l
proposal (proposals.Remove removed) = number w16 3 ⊕ number w32 removed
proposal (proposals.PreSharedKey p) = number w16 4 ⊕ psk_id p
proposal (proposals.ReInit r) = number w16 5 ⊕ reinit r
proposal (proposals.ExternalInit kem_output) = number w16 6 ⊕ vector kem_output
proposal (proposals.ContextExtensions extensions) = number w16 7 ⊕ list extension extensions

-- `proposal_or_ref e` is the encoding of a ProposalOrRef: its type, and a proposal or a reference (RFC 9420, 12.4).
unfoldable pub proposal_or_ref : ProposalOrRef → Option (List ℕ)
proposal_or_ref (entries.Proposal p) = number w8 1 ⊕ proposal p
proposal_or_ref (entries.Reference reference) = number w8 2 ⊕ vector reference

-- `ciphertext c` is the encoding of an HPKECiphertext (RFC 9420, 7.6).
unfoldable pub ciphertext : Ciphertext → Option (List ℕ)
ciphertext c = vector c.kem_output ⊕ vector c.ciphertext

-- `path_node n` is the encoding of an UpdatePathNode (RFC 9420, 7.6).
unfoldable pub path_node : PathNode → Option (List ℕ)
path_node n = vector n.encryption_key ⊕ list ciphertext n.ciphertexts

-- `update_path p` is the encoding of an UpdatePath (RFC 9420, 7.6).
unfoldable pub update_path : UpdatePath → Option (List ℕ)
update_path p = leaf p.leaf_node ⊕ list path_node p.nodes

-- `commit c` is the encoding of a Commit (RFC 9420, 12.4).
unfoldable pub commit : Commit → Option (List ℕ)
commit c = list proposal_or_ref c.proposals ⊕ optional update_path c.path

-- `sender s` is the encoding of a Sender: its type, and its index for the types that have one (RFC 9420, 6).
unfoldable pub sender : Sender → Option (List ℕ)
sender (Member leaf_index) = number w8 1 ⊕ number w32 leaf_index
sender (External sender_index) = number w8 2 ⊕ number w32 sender_index
sender NewMemberProposal = number w8 3
sender NewMemberCommit = number w8 4

-- `content c` is the encoding of the content type and the content (RFC 9420, 6).
unfoldable pub content : Content → Option (List ℕ)
content (contents.Application bytes) = number w8 1 ⊕ vector bytes
content (contents.Proposal p) = number w8 2 ⊕ proposal p
content (contents.Commit c) = number w8 3 ⊕ commit c

-- `framed_content f` is the encoding of a FramedContent (RFC 9420, 6).
unfoldable pub framed_content : FramedContent → Option (List ℕ)
framed_content f =
    vector f.group_id ⊕ number w64 f.epoch ⊕ sender f.sender ⊕ vector f.authenticated ⊕ content f.content

-- `group_info g` is the encoding of a GroupInfo (RFC 9420, 12.4.3).
unfoldable pub group_info : GroupInfo → Option (List ℕ)
group_info g =
    group_context g.context ⊕ list extension g.extensions ⊕ vector g.confirmation_tag ⊕ number w32 g.signer
    ⊕ vector g.signature

-- `is_member s`: the sender is a member (RFC 9420, 6).
abbrev pub is_member : Sender → Bool
is_member (Member leaf_index) = true
is_member (External sender_index) = false
is_member NewMemberProposal = false
is_member NewMemberCommit = false

-- `is_commit c`: the content is a commit (RFC 9420, 6).
abbrev pub is_commit : Content → Bool
is_commit (contents.Application bytes) = false
is_commit (contents.Proposal p) = false
is_commit (contents.Commit c) = true
