-- Leaf nodes without extensions, with a basic credential. Used by contracts.
use Rattle.std.specs.Prelude.{◌≡◌, ◌==◌, ℕ, List, [], true}
use Rattle.std.specs.List.{list_any}
use Rattle.mls_nodes.specs.declared.credential.Credential.TheVariants.{Basic}
use Rattle.mls_nodes.specs.declared.leaf.LeafNode.{LeafNode}

-- `IsPlain x`: the leaf node has no extensions, and has and supports a basic credential, type 1 (RFC 9420, 5.3 and 7.2).
pub record IsPlain (x : LeafNode) : Type 0 where
  pub no_extensions : x.extensions ≡ []
  pub basic : (identity : List ℕ) × (x.credential ≡ Basic identity)
  pub supported : list_any (λ kind. kind == 1) x.capabilities.credentials ≡ true
