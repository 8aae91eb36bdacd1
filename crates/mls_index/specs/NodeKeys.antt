-- The keys of a tree by node index (RFC 9420, 7.3). `kind` says whether these are encryption keys or signature keys.
-- Used by contracts.
use Rattle.std.specs.Prelude.{◌≡◌, ◌≢◌, ℕ, ◌==◌, List, Bool, true, false, Option, Some, None, option_map}
use Rattle.mls_nodes.specs.Fingerprints.{fingerprint}
use Rattle.mls_nodes.specs.KeyPrefix.{key_prefix}
use Rattle.mls_nodes.specs.NodeModel.{NodeValue, leaf_node, parent_node}
use Rattle.mls_tree.specs.Tree.{Tree, node_at}
use Rattle.mls_check.specs.DistinctKeys.{encryption_key}
use Rattle.mls_index.specs.declared.node_key.KeyKind.{KeyKind}
use Rattle.mls_index.specs.declared.node_key.KeyKind.TheVariants.{Encryption, Signature}

-- `signature_key n` is the signature key of a leaf. A parent has none.
abbrev pub signature_key : Option NodeValue → Option (List ℕ)
signature_key None = None
signature_key (Some (leaf_node x)) = Some x.signature_key
signature_key (Some (parent_node _)) = None

-- `node_key kind n` is the key of a kind that a node has.
abbrev pub node_key : KeyKind → Option NodeValue → Option (List ℕ)
node_key Encryption node = option_map encryption_key node
node_key Signature node = signature_key node

-- `key_at_node kind t p` is the key of a kind at a node index.
abbrev pub key_at_node : KeyKind → Tree → ℕ → Option (List ℕ)
key_at_node kind t p = node_key kind (node_at t p)

-- `prefix_at kind t p` is the prefix of the key at a node index.
abbrev pub prefix_at : KeyKind → Tree → ℕ → Option ℕ
prefix_at kind t p = option_map key_prefix (key_at_node kind t p)

-- `fingerprint_at kind t p` is the fingerprint of the key at a node index.
abbrev pub fingerprint_at : KeyKind → Tree → ℕ → Option ℕ
fingerprint_at kind t p = option_map fingerprint (key_at_node kind t p)

-- `are_numbers_for o b f`: there is a key, and either `b` is its prefix and `f` is `None`, or `f` is its fingerprint and `b`
-- is `None`. Or there is no key, and both are `None`.
unfoldable pub are_numbers_for : Option (List ℕ) → Option ℕ → Option ℕ → Bool
are_numbers_for None None None = true
are_numbers_for None None (Some f) = false
are_numbers_for None (Some b) f = false
are_numbers_for (Some key) None None = false
are_numbers_for (Some key) None (Some f) = f == fingerprint key
are_numbers_for (Some key) (Some b) None = b == key_prefix key
are_numbers_for (Some key) (Some b) (Some f) = false

-- `AreNumbersOf kind t x y`: for each node index with a key, either `x` maps it to the prefix of the key, or `y` maps it to the
-- fingerprint. Otherwise they map a node index to `None`.
abbrev pub AreNumbersOf : KeyKind → Tree → (ℕ → Option ℕ) → (ℕ → Option ℕ) → Type 0
AreNumbersOf kind t x y = (p : ℕ) → are_numbers_for (key_at_node kind t p) (x p) (y p) ≡ true

-- `HasKey kind t key`: some node of the tree has this key.
abbrev pub HasKey : KeyKind → Tree → List ℕ → Type 0
HasKey kind t key = (p : ℕ) × (key_at_node kind t p ≡ Some key)

-- `IsUniqueKey kind t p`: no other node of the tree has the key of the node at a node index.
abbrev pub IsUniqueKey : KeyKind → Tree → ℕ → Type 0
IsUniqueKey kind t p = (q : ℕ) (key : List ℕ) → q ≢ p → key_at_node kind t p ≡ Some key → key_at_node kind t q ≡ Some key → ⊥
