-- Ratchet trees and their subtrees (RFC 9420, 4.1 and Appendix C). Leaf indices count the leaves from left to right. A
-- definition that takes `first` is about a subtree whose first leaf has that index; of a whole tree `first` is 0. A
-- node index is a position in `listing`: leaf i is at 2 * i. Used by contracts.
use Rattle.std.specs.Prelude.{◌≡◌, ℕ, suc, ◌+◌, ◌*◌, ◌-◌, ◌==◌, nat_lt, if◌then◌else◌, List, [], ◌∷◌, ◌++◌, Option, Some, None}
use Rattle.mls_nodes.specs.declared.leaf.LeafNode.{LeafNode}
use Rattle.mls_nodes.specs.declared.parent.ParentNode.{ParentNode}
use Rattle.mls_nodes.specs.NodeModel.{NodeValue, leaf_node, parent_node}

-- A binary tree of leaf nodes and parent nodes, each of which may be blank (RFC 9420, 4.1).
pub data Tree : Type 0 where
  leaf : Option LeafNode → Tree
  branch : Tree → Option ParentNode → Tree → Tree

-- `height t` is the level of the root (RFC 9420, Appendix C).
abbrev pub height : Tree → ℕ
height (leaf _) = 0
height (branch l _ _) = suc (height l)

-- `leaf_count t` is the number of leaves.
abbrev pub leaf_count : Tree → ℕ
leaf_count (leaf _) = 1
leaf_count (branch l _ r) = leaf_count l + leaf_count r

-- `member_count t` is the number of non-blank leaves.
abbrev pub member_count : Tree → ℕ
member_count (leaf None) = 0
member_count (leaf (Some _)) = 1
member_count (branch l _ r) = member_count l + member_count r

-- `IsPerfect t`: both children of each parent have the same height (RFC 9420, 4.1: a perfect binary tree).
abbrev pub IsPerfect : Tree → Type 0
IsPerfect (leaf _) = Unit {0}
IsPerfect (branch l _ r) = (height l ≡ height r) × IsPerfect l × IsPerfect r

-- `leaf_entry x` is the entry of a leaf in the listing.
abbrev pub leaf_entry : Option LeafNode → Option NodeValue
leaf_entry None = None
leaf_entry (Some x) = Some (leaf_node x)

-- `parent_entry p` is the entry of a parent in the listing.
abbrev pub parent_entry : Option ParentNode → Option NodeValue
parent_entry None = None
parent_entry (Some x) = Some (parent_node x)

-- `leaves_among nodes` is how many entries of a list of nodes are leaf nodes.
abbrev pub leaves_among : List (Option NodeValue) → ℕ
leaves_among [] = 0
leaves_among (None ∷ nodes) = leaves_among nodes
leaves_among (Some (leaf_node _) ∷ nodes) = 1 + leaves_among nodes
leaves_among (Some (parent_node _) ∷ nodes) = leaves_among nodes

-- `listing t` is all nodes from left to right: those of the left subtree, the parent, those of the right subtree
-- (RFC 9420, Appendix C).
abbrev pub listing : Tree → List (Option NodeValue)
listing (leaf x) = leaf_entry x ∷ []
listing (branch l p r) = listing l ++ parent_entry p ∷ listing r

-- A subtree, with the index of its first leaf in the whole tree.
pub record Subtree : Type 0 where
  pub first : ℕ
  pub tree : Tree

-- `root_node_index first t` is the node index of the root. That of a parent is just before the first leaf of its right
-- subtree (RFC 9420, Appendix C).
abbrev pub root_node_index : ℕ → Tree → ℕ
root_node_index first (leaf _) = 2 * first
root_node_index first (branch l _ _) = 2 * (first + leaf_count l) - 1

-- `subtree_at first t p` is the subtree whose root is at node index p, if there is one (RFC 9420, Appendix C).
abbrev pub subtree_at : ℕ → Tree → ℕ → Option Subtree
subtree_at first (leaf x) p = if p == 2 * first then Some (record { first = first; tree = leaf x }) else None
subtree_at first (branch l n r) p =
    if p + 1 == 2 * (first + leaf_count l)
    then Some (record { first = first; tree = branch l n r })
    else (if nat_lt (p + 1) (2 * (first + leaf_count l)) then subtree_at first l p else subtree_at (first + leaf_count l) r p)

-- `root_entry t` is the node at the root.
abbrev pub root_entry : Tree → Option NodeValue
root_entry (leaf x) = leaf_entry x
root_entry (branch _ p _) = parent_entry p

-- `entry_of s` is the node at the root of a subtree, if there is a subtree.
abbrev pub entry_of : Option Subtree → Option NodeValue
entry_of None = None
entry_of (Some s) = root_entry s.tree

-- `node_at t p` is the non-blank node at node index p, if there is one.
abbrev pub node_at : Tree → ℕ → Option NodeValue
node_at t p = entry_of (subtree_at 0 t p)

-- `leaf_at first t i` is the non-blank leaf i, if there is one.
abbrev pub leaf_at : ℕ → Tree → ℕ → Option LeafNode
leaf_at first (leaf x) i = if i == first then x else None
leaf_at first (branch l _ r) i = if nat_lt i (first + leaf_count l) then leaf_at first l i else leaf_at (first + leaf_count l) r i

-- `IsBranch t`: the tree is not a single leaf.
abbrev pub IsBranch : Tree → Type 0
IsBranch (leaf _) = ⊥
IsBranch (branch _ _ _) = Unit {0}

-- `IsParent s`: there is a subtree, and it is not a single leaf.
abbrev pub IsParent : Option Subtree → Type 0
IsParent None = ⊥
IsParent (Some s) = IsBranch s.tree

-- `IsParentNodeIndex t p`: p is the node index of a parent, blank or not.
abbrev pub IsParentNodeIndex : Tree → ℕ → Type 0
IsParentNodeIndex t p = IsParent (subtree_at 0 t p)
