-- Leaf nodes that are stored as the bytes that encode them. Internal: no public contract uses this.
use Rattle.std.specs.Prelude.{◌≡◌, ◌↔◌, ◌≤◌, ℕ, Bool, IsTrue, List, [], length, Option, Some, None}
use Rattle.mls_wire.specs.Input.{Input, at}
use Rattle.mls_wire.specs.Limits.{vector_limit}
use Rattle.mls_nodes.specs.FingerprintsInternal.{AreFingerprints}
use Rattle.mls_nodes.specs.Layout.{leaf}
use Rattle.mls_nodes.specs.LeafParsing.{capabilities_at, leaf_node_at, source_at}
use Rattle.mls_nodes.specs.Parsing.{credential_at}
use Rattle.mls_nodes.specs.PlainLeaf.{IsPlain}
use Rattle.mls_nodes.specs.declared.credential.Credential.TheVariants.{Basic}
use Rattle.mls_nodes.specs.declared.leaf_source.LeafSource.TheVariants.{Update}
use Rattle.mls_nodes.specs.declared.fingerprints.KeyFingerprints.{KeyFingerprints}
use Rattle.mls_nodes.specs.declared.leaf.LeafNode.{LeafNode}

-- the leaf node whose fields are empty
abbrev empty_fields : LeafNode
empty_fields = record {
  encryption_key = [];
  signature_key = [];
  credential = Basic [];
  capabilities = record { versions = []; cipher_suites = []; extensions = []; proposals = []; credentials = [] };
  source = Update;
  extensions = [];
  signature = [];
}

-- the leaf node that was read
abbrev leaf_read : Option (LeafNode × Input) → LeafNode
leaf_read None = empty_fields
leaf_read (Some found) = found.0

-- `stored_leaf bytes` is the leaf node that these bytes encode.
abbrev pub stored_leaf : List ℕ → LeafNode
stored_leaf bytes = leaf_read (leaf_node_at (at 0 bytes))

-- `IsStoredLeaf bytes stored is_plain`: the bytes encode a leaf node, and fit into a vector. The fingerprints, if there
-- are any, are those of its keys, and `is_plain` says whether it is plain.
abbrev pub IsStoredLeaf : List ℕ → Option KeyFingerprints → Bool → Type 0
IsStoredLeaf bytes stored is_plain =
    (leaf (stored_leaf bytes) ≡ Some bytes)
    × (length bytes ≤ vector_limit)
    × AreFingerprints (stored_leaf bytes).encryption_key (stored_leaf bytes).signature_key stored
    × (IsTrue is_plain ↔ IsPlain (stored_leaf bytes))

-- `IsAfterKeys x i`: the input begins with the credential of `x`, then its capabilities, then its source.
pub record IsAfterKeys (x : LeafNode) (i : Input) : Type 0 where
  pub after_credential : Input
  pub after_capabilities : Input
  pub after_source : Input
  pub credential : credential_at i ≡ Some (x.credential, after_credential)
  pub capabilities : capabilities_at after_credential ≡ Some (x.capabilities, after_capabilities)
  pub source : source_at after_capabilities ≡ Some (x.source, after_source)
