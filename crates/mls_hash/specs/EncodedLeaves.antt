-- The tree hashes of leaves, from the entries of a ratchet_tree (RFC 9420, 7.8). H is a hash function. Internal: no
-- public contract uses this.
use Rattle.std.specs.Prelude.{◌≡◌, ℕ, ◌+◌, ◌*◌, ◌/◌, List, length, Option, Some, option_map, slice_get}
use Rattle.mls_nodes.specs.declared.leaf.LeafNode.{LeafNode}
use Rattle.mls_nodes.specs.NodeModel.{NodeValue}
use Rattle.mls_tree.specs.Tree.{Tree, leaf_entry}
use Rattle.mls_tree.specs.TreeHash.{leaf_tree_hash_input}
use Rattle.mls_hash.specs.WithoutLeaves.{tree_hash_at}

-- `AreEntryHashes H nodes hashes`: for each entry at the node index of a leaf there is a hash. It is the tree hash of
-- that leaf, if the entry is blank or a leaf node.
pub record AreEntryHashes (H : List ℕ → List ℕ) (nodes : List (Option NodeValue)) (hashes : List (List ℕ)) : Type 0 where
  pub count : length hashes ≡ (length nodes + 1) / 2
  pub right : (i : ℕ) (hash : List ℕ) (x : Option LeafNode) → slice_get hashes i ≡ Some hash → slice_get nodes (2 * i) ≡ Some (leaf_entry x) → option_map H (leaf_tree_hash_input i x) ≡ Some hash

-- `AreLeafHashes H t hashes`: each hash is the tree hash of the leaf with its index.
abbrev pub AreLeafHashes : (List ℕ → List ℕ) → Tree → List (List ℕ) → Type 0
AreLeafHashes H t hashes = (i : ℕ) (hash : List ℕ) → slice_get hashes i ≡ Some hash → tree_hash_at H t (2 * i) ≡ Some hash
