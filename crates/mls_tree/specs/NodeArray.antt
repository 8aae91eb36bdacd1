-- The tree that an array of nodes stores (RFC 9420, Appendix C). Internal: no public contract uses this.
use Rattle.std.specs.Prelude.{◌≡◌, ◌≢◌, ℕ, zero, suc, ◌+◌, ◌*◌, ◌-◌, ◌%◌, ◌^◌, ◌≤◌, ◌<◌, List, length, Option, Some, None, slice_get, ◌⊎◌}
use Rattle.std.proofs.Common.{refl, ap, arith}
use Rattle.mls_nodes.specs.declared.leaf.LeafNode.{LeafNode}
use Rattle.mls_nodes.specs.declared.parent.ParentNode.{ParentNode}
use Rattle.mls_nodes.specs.declared.node.Node.{Node}
use Rattle.mls_nodes.specs.declared.node.Node.TheVariants.{Leaf, Parent}
use Rattle.mls_tree.specs.Tree.{Tree, leaf, branch, height, IsPerfect}
use Rattle.mls_tree.specs.TreeInternal.{leaves_at}
use Rattle.mls_tree.specs.RatchetTree.{RatchetTree, HasShape}
use Rattle.mls_tree.specs.TreeSizes.{IsPowerOfTwo}
use Rattle.mls_tree.specs.declared.error.TreeError.{TreeError}
use Rattle.mls_tree.specs.declared.error.TreeError.TheVariants.{NoSuchNode, TooManyLeaves, BadShape, OutOfMemory}

-- The leaf node at an index of the array.
abbrev pub leaf_part : Option (Option Node) → Option LeafNode
leaf_part None = None
leaf_part (Some None) = None
leaf_part (Some (Some (Leaf l))) = Some l
leaf_part (Some (Some (Parent b))) = None

-- The parent node at an index of the array.
abbrev pub parent_part : Option (Option Node) → Option ParentNode
parent_part None = None
parent_part (Some None) = None
parent_part (Some (Some (Leaf b))) = None
parent_part (Some (Some (Parent b))) = Some b.value

-- The tree of height h in the array, whose first leaf has the index `first`.
abbrev pub tree_in : List (Option Node) → ℕ → ℕ → Tree
tree_in xs zero first = leaf (leaf_part (slice_get xs (2 * first)))
tree_in xs (suc h) first =
    branch (tree_in xs h first) (parent_part (slice_get xs (2 * (first + leaves_at h) - 1))) (tree_in xs h (first + leaves_at h))

-- That tree has height h.
pub height-tree_in : (xs : List (Option Node)) (h first : ℕ) → height (tree_in xs h first) ≡ h
height-tree_in xs zero first = refl
height-tree_in xs (suc h) first = ap (λ n. suc n) (height-tree_in xs h first)

-- That tree is perfect.
pub tree_in-perfect : (xs : List (Option Node)) (h first : ℕ) → IsPerfect (tree_in xs h first)
tree_in-perfect xs zero first = tt
tree_in-perfect xs (suc h) first =
    (let a = height-tree_in xs h first in let b = height-tree_in xs h (first + leaves_at h) in cc, tree_in-perfect xs h first, tree_in-perfect xs h (first + leaves_at h))

-- So it has the shape of a ratchet tree.
pub tree_in-shape : (xs : List (Option Node)) (h : ℕ) → h ≤ 20 → HasShape (tree_in xs h 0)
tree_in-shape xs h low = record { perfect = tree_in-perfect xs h 0; low = omega (arith, height-tree_in xs h 0) }

-- The tree of the whole array.
abbrev pub ratchet_tree_in : List (Option Node) → (h : ℕ) → h ≤ 20 → RatchetTree
ratchet_tree_in xs h low = record { tree = tree_in xs h 0; shape = tree_in-shape xs h low }

-- No leaf node is here.
abbrev pub IsNoLeaf : Option (Option Node) → Type 0
IsNoLeaf None = Unit {0}
IsNoLeaf (Some None) = Unit {0}
IsNoLeaf (Some (Some (Leaf b))) = ⊥
IsNoLeaf (Some (Some (Parent b))) = Unit {0}

-- No parent node is here.
abbrev pub IsNoParent : Option (Option Node) → Type 0
IsNoParent None = Unit {0}
IsNoParent (Some None) = Unit {0}
IsNoParent (Some (Some (Leaf b))) = Unit {0}
IsNoParent (Some (Some (Parent b))) = ⊥

-- The array has as many entries as a tree of height h has nodes, leaves at even indices and parents at odd ones.
pub record IsArrayOf (xs : List (Option Node)) (h : ℕ) : Type 0 where
  pub long : length xs + 1 ≡ 2 * leaves_at h
  pub even : (i : ℕ) → IsNoParent (slice_get xs (2 * i))
  pub odd : (i : ℕ) → IsNoLeaf (slice_get xs (2 * i + 1))

-- The array has changed only from `low` up to before `high`, and each node is still of the kind that its index has (RFC 9420, Appendix C).
pub record ChangesWithin (old new : List (Option Node)) (low high : ℕ) : Type 0 where
  pub outside : (p : ℕ) → (p < low) ⊎ (high ≤ p) → slice_get new p ≡ slice_get old p
  pub even : (i : ℕ) → IsNoParent (slice_get old (2 * i)) → IsNoParent (slice_get new (2 * i))
  pub odd : (i : ℕ) → IsNoLeaf (slice_get old (2 * i + 1)) → IsNoLeaf (slice_get new (2 * i + 1))

-- A leaf node is at an even index, a parent node at an odd one.
pub record FitsNodeIndex (p : ℕ) (o : Option (Option Node)) : Type 0 where
  pub even : p % 2 ≡ 0 → IsNoParent o
  pub odd : p % 2 ≢ 0 → IsNoLeaf o

-- Why no tree has this number of leaves.
abbrev pub IsNoSize : TreeError → ℕ → Type 0
IsNoSize BadShape leaves = IsPowerOfTwo leaves → ⊥
IsNoSize TooManyLeaves leaves = (h : ℕ) × (20 < h) × (leaves ≡ 2 ^ h)
IsNoSize NoSuchNode leaves = ⊥
IsNoSize OutOfMemory leaves = ⊥

-- Why no tree has this number of nodes.
abbrev pub IsNoLength : TreeError → ℕ → Type 0
IsNoLength BadShape count = (h : ℕ) → count + 1 ≢ 2 * leaves_at h
IsNoLength TooManyLeaves count = (h : ℕ) × (20 < h) × (count + 1 ≡ 2 * leaves_at h)
IsNoLength NoSuchNode count = ⊥
IsNoLength OutOfMemory count = ⊥
