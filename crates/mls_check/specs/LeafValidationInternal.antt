-- The credential types of the leaves of a tree (RFC 9420, 5.3). Internal: no public contract uses this.
use Rattle.std.specs.Prelude.{◌≡◌, ℕ, Some}
use Rattle.mls_nodes.specs.declared.leaf.LeafNode.{LeafNode}
use Rattle.mls_tree.specs.Tree.{Tree, leaf_at}
use Rattle.mls_check.specs.LeafValidation.{credential_type}

-- `IsCredentialUsed t kind`: some non-blank leaf has a credential of this type (RFC 9420, 5.3).
abbrev pub IsCredentialUsed : Tree → ℕ → Type 0
IsCredentialUsed t kind = (i : ℕ) × (x : LeafNode) × (leaf_at 0 t i ≡ Some x) × (credential_type x.credential ≡ kind)
