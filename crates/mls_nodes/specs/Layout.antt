-- The encodings of credentials, nodes and GroupContext: their fields in order (RFC 9420, 5.3, 7, 8.1, 11.1 and
-- 12.1.8.1). A value over its limits has no encoding. Used by contracts.
use Rattle.std.specs.Prelude.{ℕ, List, length, Option, None, nat_le, if◌then◌else◌}
use Rattle.std.specs.Int.{w8, w16, w32, w64}
use Rattle.mls_wire.specs.Encoding.{◌⊕◌, number, vector, list}
use Rattle.mls_nodes.specs.Limits.{leaf_limit}
use Rattle.mls_nodes.specs.Extension.{extension}
use Rattle.mls_nodes.specs.NodeModel.{NodeValue, leaf_node, parent_node}
use Rattle.mls_nodes.specs.declared.credential.Credential.{Credential}
use Rattle.mls_nodes.specs.declared.credential.Credential.TheVariants.{Basic, X509}
use Rattle.mls_nodes.specs.declared.leaf_source.LeafSource.{LeafSource}
use Rattle.mls_nodes.specs.declared.leaf_source.LeafSource.TheVariants.{KeyPackage, Update, Commit}
use Rattle.mls_nodes.specs.declared.leaf_source.Lifetime.{Lifetime}
use Rattle.mls_nodes.specs.declared.capabilities.Capabilities.{Capabilities}
use Rattle.mls_nodes.specs.declared.leaf.LeafNode.{LeafNode}
use Rattle.mls_nodes.specs.declared.parent.ParentNode.{ParentNode}
use Rattle.mls_nodes.specs.declared.required_capabilities.RequiredCapabilities.{RequiredCapabilities}
use Rattle.mls_nodes.specs.declared.context.GroupContext.{GroupContext}
use Rattle.mls_nodes.specs.declared.senders.ExternalSender.{ExternalSender}

-- `credential c` is the encoding of a Credential: its type, basic 1 or x509 2, and its body (RFC 9420, 5.3).
unfoldable pub credential : Credential → Option (List ℕ)
credential (Basic identity) = number w16 1 ⊕ vector identity
credential (X509 chain) = number w16 2 ⊕ list vector chain

-- `codes cs` is the encoding of a list of u16 (RFC 9420, 7.2).
abbrev pub codes : List ℕ → Option (List ℕ)
codes cs = list (number w16) cs

-- `capabilities c` is the encoding of Capabilities: five lists of u16 (RFC 9420, 7.2).
unfoldable pub capabilities : Capabilities → Option (List ℕ)
capabilities c = codes c.versions ⊕ codes c.cipher_suites ⊕ codes c.extensions ⊕ codes c.proposals ⊕ codes c.credentials

-- `lifetime l` is the encoding of a Lifetime: not before, and not after (RFC 9420, 7.2).
unfoldable pub lifetime : Lifetime → Option (List ℕ)
lifetime l = number w64 l.not_before ⊕ number w64 l.not_after

-- `source s` is the encoding of the source of a leaf node, key_package 1, update 2 or commit 3, with its fields
-- (RFC 9420, 7.2).
unfoldable pub source : LeafSource → Option (List ℕ)
source (KeyPackage l) = number w8 1 ⊕ lifetime l
source Update = number w8 2
source (Commit parent_hash) = number w8 3 ⊕ vector parent_hash

-- `leaf n` is the encoding of a LeafNode (RFC 9420, 7.2).
unfoldable pub leaf : LeafNode → Option (List ℕ)
leaf n =
    vector n.encryption_key ⊕ vector n.signature_key ⊕ credential n.credential ⊕ capabilities n.capabilities
    ⊕ source n.source ⊕ list extension n.extensions ⊕ vector n.signature

-- `unsigned_leaf n` is the encoding of a LeafNode without its signature (RFC 9420, 7.2).
unfoldable pub unsigned_leaf : LeafNode → Option (List ℕ)
unsigned_leaf n =
    vector n.encryption_key ⊕ vector n.signature_key ⊕ credential n.credential ⊕ capabilities n.capabilities
    ⊕ source n.source ⊕ list extension n.extensions

-- `unmerged xs` is the encoding of a list of unmerged leaves, of at most 1,048,576 entries (RFC 9420, 7.1).
unfoldable pub unmerged : List ℕ → Option (List ℕ)
unmerged xs = if nat_le (length xs) leaf_limit then list (number w32) xs else None

-- `parent n` is the encoding of a ParentNode (RFC 9420, 7.1).
unfoldable pub parent : ParentNode → Option (List ℕ)
parent n = vector n.encryption_key ⊕ vector n.parent_hash ⊕ unmerged n.unmerged

-- `node n` is the encoding of a Node: its type, leaf 1 or parent 2, and the node (RFC 9420, 12.4.3.3).
unfoldable pub node : NodeValue → Option (List ℕ)
node (leaf_node l) = number w8 1 ⊕ leaf l
node (parent_node p) = number w8 2 ⊕ parent p

-- `required_capabilities r` is the encoding of RequiredCapabilities: extension, proposal and credential types
-- (RFC 9420, 11.1).
unfoldable pub required_capabilities : RequiredCapabilities → Option (List ℕ)
required_capabilities r = codes r.extensions ⊕ codes r.proposals ⊕ codes r.credentials

-- `external_sender s` is the encoding of an ExternalSender: its key and its credential (RFC 9420, 12.1.8.1).
unfoldable pub external_sender : ExternalSender → Option (List ℕ)
external_sender s = vector s.signature_key ⊕ credential s.credential

-- `group_context c` is the encoding of a GroupContext (RFC 9420, 8.1).
unfoldable pub group_context : GroupContext → Option (List ℕ)
group_context c =
    number w16 c.version ⊕ number w16 c.cipher_suite ⊕ vector c.group_id ⊕ number w64 c.epoch ⊕ vector c.tree_hash
    ⊕ vector c.confirmed ⊕ list extension c.extensions
