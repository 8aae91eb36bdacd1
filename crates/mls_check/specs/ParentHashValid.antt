-- Parent-hash valid parents (RFC 9420, 7.9.2). H is a hash function, `leaves` the number of leaves of the whole tree.
-- Used by contracts.
use Rattle.std.specs.Prelude.{◌≡◌, ◌≢◌, ◌↔◌, ◌⊎◌, ℕ, ◌+◌, ◌*◌, ◌<◌, ◌≤◌, List, Option, Some, None}
use Rattle.std.specs.List.{Contains}
use Rattle.mls_nodes.specs.declared.leaf_source.LeafSource.{LeafSource}
use Rattle.mls_nodes.specs.declared.leaf_source.LeafSource.TheVariants.{KeyPackage, Update, Commit}
use Rattle.mls_nodes.specs.declared.parent.ParentNode.{ParentNode}
use Rattle.mls_nodes.specs.NodeModel.{NodeValue, leaf_node, parent_node}
use Rattle.mls_tree.specs.Tree.{Tree, leaf, branch, leaf_count, Subtree, subtree_at, root_entry}
use Rattle.mls_tree.specs.Paths.{resolution}
use Rattle.mls_hash.specs.ParentHash.{parent_hash}

-- `source_hash s` is the parent hash in a leaf node of source commit (RFC 9420, 7.2).
abbrev pub source_hash : LeafSource → Option (List ℕ)
source_hash (KeyPackage _) = None
source_hash Update = None
source_hash (Commit parent_hash) = Some parent_hash

-- `linked_hash n` is the `parent_hash` of a non-blank node, if it has one (RFC 9420, 7.1 and 7.2).
abbrev pub linked_hash : Option NodeValue → Option (List ℕ)
linked_hash None = None
linked_hash (Some (leaf_node x)) = source_hash x.source
linked_hash (Some (parent_node p)) = Some p.parent_hash

-- `AreChildren first t p child other`: the root of `t` is the non-blank parent `p`, and `child` and `other` are its two
-- children.
abbrev pub AreChildren : ℕ → Tree → ParentNode → Subtree → Subtree → Type 0
AreChildren first (leaf _) p child other = ⊥
AreChildren first (branch l None r) p child other = ⊥
AreChildren first (branch l (Some q) r) p child other =
    (q ≡ p) × (((child ≡ record { first = first; tree = l }) × (other ≡ record { first = first + leaf_count l; tree = r }))
    ⊎ ((child ≡ record { first = first + leaf_count l; tree = r }) × (other ≡ record { first = first; tree = l })))

-- `IsUnmergedUnder p s u`: u is the node index of an unmerged leaf of `p` that is in the subtree `s`.
abbrev pub IsUnmergedUnder : ParentNode → Subtree → ℕ → Type 0
IsUnmergedUnder p s u = (i : ℕ) × Contains p.unmerged i × (s.first ≤ i) × (i < s.first + leaf_count s.tree) × (u ≡ 2 * i)

-- The parent-hash link of RFC 9420, 7.9.2. `child` is the child of `parent` that contains `descendant`, and `other` is
-- the child on the copath. The root of `descendant` has the parent hash of `parent` over `other`. It is in the
-- resolution of `child`. The rest of that resolution is the set of unmerged leaves of `parent` in `child`.
pub record ParentHashLink (H : List ℕ → List ℕ) (leaves : ℕ) (parent : ParentNode) (child other descendant : Subtree) : Type 0 where
  pub node_index : ℕ
  pub descendant_is : subtree_at child.first child.tree node_index ≡ Some descendant
  pub hash : List ℕ
  pub linked : linked_hash (root_entry descendant.tree) ≡ Some hash
  pub expected : parent_hash H parent other.first other.tree ≡ Some hash
  pub resolved : Contains (resolution leaves child.first child.tree) node_index
  pub unmerged : (u : ℕ) → (Contains (resolution leaves child.first child.tree) u × (u ≢ node_index)) ↔ IsUnmergedUnder parent child u

-- `ParentHashStep H leaves descendant above`: there is a parent-hash link from the root of `descendant` to the root of
-- `above` (RFC 9420, 7.9.2).
pub record ParentHashStep (H : List ℕ → List ℕ) (leaves : ℕ) (descendant above : Subtree) : Type 0 where
  pub parent : ParentNode
  pub child : Subtree
  pub other : Subtree
  pub children : AreChildren above.first above.tree parent child other
  pub link : ParentHashLink H leaves parent child other descendant

-- `IsLeaf t`: the tree is a single leaf.
abbrev pub IsLeaf : Tree → Type 0
IsLeaf (leaf _) = Unit {0}
IsLeaf (branch _ _ _) = ⊥

-- `ParentHashValid H leaves s`: a chain of links leads from a leaf to the root of `s`. So the root is parent-hash valid
-- (RFC 9420, 7.9.2).
pub data ParentHashValid (H : List ℕ → List ℕ) (leaves : ℕ) : Subtree → Type 0 where
  from_leaf : (descendant above : Subtree) → ParentHashStep H leaves descendant above → IsLeaf descendant.tree → ParentHashValid H leaves above
  from_parent : (descendant above : Subtree) → ParentHashStep H leaves descendant above → ParentHashValid H leaves descendant → ParentHashValid H leaves above

-- `IsNonBlankParent t`: the root of the tree is a non-blank parent.
abbrev pub IsNonBlankParent : Tree → Type 0
IsNonBlankParent (leaf _) = ⊥
IsNonBlankParent (branch _ None _) = ⊥
IsNonBlankParent (branch _ (Some _) _) = Unit {0}

-- `IsParentHashValidAt H t p`: the parent at node index p is parent-hash valid, if it is non-blank.
abbrev pub IsParentHashValidAt : (List ℕ → List ℕ) → Tree → ℕ → Type 0
IsParentHashValidAt H t p = (s : Subtree) → subtree_at 0 t p ≡ Some s → IsNonBlankParent s.tree → ParentHashValid H (leaf_count t) s

-- `IsParentHashValid H t`: every non-blank parent is parent-hash valid (RFC 9420, 7.9.2).
abbrev pub IsParentHashValid : (List ℕ → List ℕ) → Tree → Type 0
IsParentHashValid H t = (p : ℕ) → IsParentHashValidAt H t p

-- `IsParentHashValidHere H t node_index`: a non-blank parent is at the node index, and it is parent-hash valid.
abbrev pub IsParentHashValidHere : (List ℕ → List ℕ) → Tree → ℕ → Type 0
IsParentHashValidHere H t node_index = (s : Subtree) × (subtree_at 0 t node_index ≡ Some s) × ParentHashValid H (leaf_count t) s
