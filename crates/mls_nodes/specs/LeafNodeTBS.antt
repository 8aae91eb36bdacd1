-- What is signed of a leaf node (RFC 9420, 7.2). Used by contracts.
use Rattle.std.specs.Prelude.{ℕ, List, [], Option, Some}
use Rattle.std.specs.Int.{w32}
use Rattle.mls_wire.specs.Encoding.{◌⊕◌, number, vector}
use Rattle.mls_nodes.specs.declared.leaf_source.LeafSource.{LeafSource}
use Rattle.mls_nodes.specs.declared.leaf_source.LeafSource.TheVariants.{KeyPackage, Update, Commit}
use Rattle.mls_nodes.specs.declared.leaf.LeafNode.{LeafNode}
use Rattle.mls_nodes.specs.Layout.{unsigned_leaf}

-- `tbs_suffix s group_id index` is the encoding of the group id and the leaf index, for the sources update and commit.
-- It is empty for key_package (RFC 9420, 7.2).
unfoldable pub tbs_suffix : LeafSource → List ℕ → ℕ → Option (List ℕ)
tbs_suffix (KeyPackage l) group_id index = Some []
tbs_suffix Update group_id index = vector group_id ⊕ number w32 index
tbs_suffix (Commit parent_hash) group_id index = vector group_id ⊕ number w32 index

-- `leaf_tbs n group_id index` is the encoding of LeafNodeTBS: the leaf node without its signature, then `tbs_suffix`
-- (RFC 9420, 7.2).
unfoldable pub leaf_tbs : LeafNode → List ℕ → ℕ → Option (List ℕ)
leaf_tbs n group_id index = unsigned_leaf n ⊕ tbs_suffix n.source group_id index
