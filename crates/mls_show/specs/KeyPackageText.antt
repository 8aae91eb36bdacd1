-- The lines of `show key-package` (RFC 9420, 7.2 and 10). Used by contracts.
use Rattle.std.specs.Prelude.{ℕ, List, ◌++◌, codes}
use Rattle.std.specs.Fmt.{decimal}
use Rattle.mls_nodes.specs.declared.capabilities.Capabilities.{Capabilities}
use Rattle.mls_nodes.specs.declared.leaf.LeafNode.{LeafNode}
use Rattle.mls_msgs.specs.declared.key_package.KeyPackage.{KeyPackage}
use Rattle.mls_show.specs.CredentialText.{credential_text}
use Rattle.mls_show.specs.ExtensionsText.{extensions_text}
use Rattle.mls_show.specs.TreeText.{source_text}
use Rattle.mls_show.specs.ValueTexts.{hex_text, numbers_text}

-- `suite_lines k` is the protocol version, the cipher suite and the init key of a KeyPackage (RFC 9420, 10).
abbrev pub suite_lines : KeyPackage → List ℕ
suite_lines k =
    codes "version " ++ (decimal k.version
    ++ (codes "\nsuite " ++ (decimal k.cipher_suite
    ++ (codes "\ninit-key " ++ (hex_text k.init_key ++ codes "\n")))))

-- `key_lines leaf` is the encryption key and the signature key of a leaf node (RFC 9420, 7.2).
abbrev pub key_lines : LeafNode → List ℕ
key_lines leaf =
    codes "encryption-key " ++ (hex_text leaf.encryption_key
    ++ (codes "\nsignature-key " ++ (hex_text leaf.signature_key ++ codes "\n")))

-- `origin_lines leaf` is the credential of a leaf node, and its source with the lifetime of a KeyPackage (RFC 9420, 7.2).
abbrev pub origin_lines : LeafNode → List ℕ
origin_lines leaf =
    codes "credential " ++ (credential_text leaf.credential
    ++ (codes "\nsource " ++ (source_text leaf.source ++ codes "\n")))

-- `protocol_text c` is the protocol versions and the cipher suites that a client supports (RFC 9420, 7.2).
abbrev pub protocol_text : Capabilities → List ℕ
protocol_text c =
    codes "capabilities versions " ++ (numbers_text c.versions ++ (codes " suites " ++ numbers_text c.cipher_suites))

-- `types_line c` is the types of extensions, proposals and credentials that a client supports (RFC 9420, 7.2).
abbrev pub types_line : Capabilities → List ℕ
types_line c =
    codes " extensions " ++ (numbers_text c.extensions
    ++ (codes " proposals " ++ (numbers_text c.proposals
    ++ (codes " credentials " ++ (numbers_text c.credentials ++ codes "\n")))))

-- `leaf_lines leaf` is the lines of a leaf node (RFC 9420, 7.2): its keys, its origin, what its client supports, and its
-- extensions.
abbrev pub leaf_lines : LeafNode → List ℕ
leaf_lines leaf =
    key_lines leaf ++ (origin_lines leaf
    ++ (protocol_text leaf.capabilities ++ (types_line leaf.capabilities
    ++ (codes "leaf-extensions " ++ (extensions_text leaf.extensions ++ codes "\n")))))

-- `key_package_text k` is the report of a KeyPackage: ten lines.
abbrev pub key_package_text : KeyPackage → List ℕ
key_package_text k =
    suite_lines k ++ (leaf_lines k.leaf_node
    ++ (codes "extensions " ++ (extensions_text k.extensions ++ codes "\n")))
