-- Reading leaf nodes from left to right, as functions of the input. Internal: no public contract uses this, except that of
-- `Decode::read`.
use Rattle.std.specs.Prelude.{Option, Some, None, nat_eq, if◌then◌else◌}
use Rattle.std.specs.Int.{w8, w16, w64}
use Rattle.mls_wire.specs.Input.{Input}
use Rattle.mls_wire.specs.Parsing.{◌>>=◌, number_at, vector_at, list_at}
use Rattle.mls_nodes.specs.Parsing.{credential_at, codes_at}
use Rattle.mls_nodes.specs.declared.leaf_source.LeafSource.{LeafSource}
use Rattle.mls_nodes.specs.declared.leaf_source.LeafSource.TheVariants.{KeyPackage, Update, Commit}
use Rattle.mls_nodes.specs.declared.leaf_source.Lifetime.{Lifetime}
use Rattle.mls_nodes.specs.declared.extension.Extension.{Extension}
use Rattle.mls_nodes.specs.declared.capabilities.Capabilities.{Capabilities}
use Rattle.mls_nodes.specs.declared.leaf.LeafNode.{LeafNode}

-- `extension_at i` is the extension at the front.
unfoldable pub extension_at : Input → Option (Extension × Input)
extension_at i = do
  kind ← number_at w16 i
  body ← vector_at kind.1
  Some (record { kind = kind.0; body = body.0 }, body.1)

-- `capabilities_at i` is the capabilities at the front.
unfoldable pub capabilities_at : Input → Option (Capabilities × Input)
capabilities_at i = do
  versions ← codes_at i
  cipher_suites ← codes_at versions.1
  extensions ← codes_at cipher_suites.1
  proposals ← codes_at extensions.1
  credentials ← codes_at proposals.1
  Some (record { versions = versions.0; cipher_suites = cipher_suites.0; extensions = extensions.0; proposals = proposals.0; credentials = credentials.0 }, credentials.1)

-- `lifetime_at i` is the lifetime at the front.
unfoldable pub lifetime_at : Input → Option (Lifetime × Input)
lifetime_at i = do
  not_before ← number_at w64 i
  not_after ← number_at w64 not_before.1
  Some (record { not_before = not_before.0; not_after = not_after.0 }, not_after.1)

-- `source_at i` is the source of a leaf node at the front.
unfoldable pub source_at : Input → Option (LeafSource × Input)
source_at i = do
  kind ← number_at w8 i
  if nat_eq kind.0 1 then (lifetime_at kind.1 >>= λ x. Some (KeyPackage x.0, x.1))
      else if nat_eq kind.0 2 then Some (Update, kind.1)
      else if nat_eq kind.0 3 then (vector_at kind.1 >>= λ x. Some (Commit x.0, x.1))
      else None

-- `leaf_node_at i` is the leaf node at the front.
unfoldable pub leaf_node_at : Input → Option (LeafNode × Input)
leaf_node_at i = do
  encryption_key ← vector_at i
  signature_key ← vector_at encryption_key.1
  credential ← credential_at signature_key.1
  capabilities ← capabilities_at credential.1
  source ← source_at capabilities.1
  extensions ← list_at extension_at source.1
  signature ← vector_at extensions.1
  Some (
    record {
      encryption_key = encryption_key.0;
      signature_key = signature_key.0;
      credential = credential.0;
      capabilities = capabilities.0;
      source = source.0;
      extensions = extensions.0;
      signature = signature.0;
    },
    signature.1,
  )
