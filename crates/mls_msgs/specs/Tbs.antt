-- What is signed and what is hashed of a message (RFC 9420, 5.1.2, 5.2, 6.1, 8.2, 10 and 12.4.3). Used by contracts.
use Rattle.std.specs.Prelude.{ℕ, List, [], Option, Some, None, codes}
use Rattle.std.specs.Int.{w16, w32}
use Rattle.mls_wire.specs.Encoding.{◌⊕◌, number, vector, list}
use Rattle.mls_nodes.specs.Extension.{extension}
use Rattle.mls_nodes.specs.Layout.{leaf, group_context}
use Rattle.mls_nodes.specs.declared.context.GroupContext.{GroupContext}
use Rattle.mls_msgs.specs.Layout.{framed_content}
use Rattle.mls_msgs.specs.declared.key_package.KeyPackage.{KeyPackage}
use Rattle.mls_msgs.specs.declared.group_info.GroupInfo.{GroupInfo}
use Rattle.mls_msgs.specs.declared.authenticated.AuthenticatedParts.{AuthenticatedParts}

-- The label under which a FramedContent is signed (RFC 9420, 5.1.2 and 6.1).
abbrev pub content_label : List ℕ
content_label = codes "MLS 1.0 FramedContentTBS"

-- The label under which a KeyPackage is signed (RFC 9420, 5.1.2 and 10).
abbrev pub package_label : List ℕ
package_label = codes "MLS 1.0 KeyPackageTBS"

-- The label under which a GroupInfo is signed (RFC 9420, 5.1.2 and 12.4.3).
abbrev pub info_label : List ℕ
info_label = codes "MLS 1.0 GroupInfoTBS"

-- The label of a ProposalRef, which is the hash of the AuthenticatedContent of the proposal (RFC 9420, 5.2).
abbrev pub reference_label : List ℕ
reference_label = codes "MLS 1.0 Proposal Reference"

-- `given_context c` is the encoding of a GroupContext, or empty if there is none.
unfoldable pub given_context : Option GroupContext → Option (List ℕ)
given_context None = Some []
given_context (Some context) = group_context context

-- `content_tbs a context` is the encoding of FramedContentTBS: the version 1, the wire format, the FramedContent, and
-- the GroupContext if one is passed (RFC 9420, 6.1).
unfoldable pub content_tbs : AuthenticatedParts → Option GroupContext → Option (List ℕ)
content_tbs a context = number w16 1 ⊕ number w16 a.wire_format ⊕ framed_content a.content ⊕ given_context context

-- `package_tbs k` is the encoding of KeyPackageTBS: the KeyPackage without its signature (RFC 9420, 10).
unfoldable pub package_tbs : KeyPackage → Option (List ℕ)
package_tbs k =
    number w16 k.version ⊕ number w16 k.cipher_suite ⊕ vector k.init_key ⊕ leaf k.leaf_node
    ⊕ list extension k.extensions

-- `info_tbs g` is the encoding of GroupInfoTBS: the GroupInfo without its signature (RFC 9420, 12.4.3).
unfoldable pub info_tbs : GroupInfo → Option (List ℕ)
info_tbs g =
    group_context g.context ⊕ list extension g.extensions ⊕ vector g.confirmation_tag ⊕ number w32 g.signer

-- `confirmed_input a` is the encoding of ConfirmedTranscriptHashInput: the wire format, the FramedContent and its
-- signature (RFC 9420, 8.2).
unfoldable pub confirmed_input : AuthenticatedParts → Option (List ℕ)
confirmed_input a = number w16 a.wire_format ⊕ framed_content a.content ⊕ vector a.signature
