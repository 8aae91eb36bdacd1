-- The original tree hashes from which parent hashes are computed (RFC 9420, 7.9), and those that are known already. H
-- is a hash function. Used by contracts.
use Rattle.std.specs.Prelude.{◌≡◌, ℕ, ◌+◌, ◌*◌, List, Option, Some, None, option_and_then, slice_get}
use Rattle.std.specs.List.Sorted.{IsNonDecreasing}
use Rattle.mls_nodes.specs.declared.parent.ParentNode.{ParentNode}
use Rattle.mls_tree.specs.Tree.{Tree, leaf, branch, leaf_count, subtree_at}
use Rattle.mls_hash.specs.declared.original_tree_hashes.ChildHashes.{ChildHashes}
use Rattle.mls_hash.specs.declared.side.Side.{Side}
use Rattle.mls_hash.specs.declared.side.Side.TheVariants.{Left, Right}
use Rattle.mls_hash.specs.ParentHash.{parent_at}
use Rattle.mls_hash.specs.WithoutLeaves.{original_tree_hash, original_tree_hash_at}
use Rattle.mls_hash.specs.SubtreeHashes.{AreSubtreeHashes}

-- `root_child_hash H side first t` is the original tree hash of the child of the root on a side, without the unmerged
-- leaves of the root (RFC 9420, 7.9). `None` if the root is no non-blank parent.
abbrev pub root_child_hash : (List ℕ → List ℕ) → Side → ℕ → Tree → Option (List ℕ)
root_child_hash H side first (leaf _) = None
root_child_hash H side first (branch l None r) = None
root_child_hash H Left first (branch l (Some p) r) = original_tree_hash H p.unmerged first l
root_child_hash H Right first (branch l (Some p) r) = original_tree_hash H p.unmerged (first + leaf_count l) r

-- `child_hash_at H t node_index side` is `root_child_hash` of the subtree at a node index.
abbrev pub child_hash_at : (List ℕ → List ℕ) → Tree → ℕ → Side → Option (List ℕ)
child_hash_at H t node_index side = option_and_then (λ s. root_child_hash H side s.first s.tree) (subtree_at 0 t node_index)

-- `AreChildHashes H t node_index hashes`: a non-blank parent is at the node index, and its children have these original
-- tree hashes.
pub record AreChildHashes (H : List ℕ → List ℕ) (t : Tree) (node_index : ℕ) (hashes : ChildHashes) : Type 0 where
  pub left : child_hash_at H t node_index Left ≡ Some hashes.left
  pub right : child_hash_at H t node_index Right ≡ Some hashes.right

-- `own_hash_at H t node_index` is the original tree hash of the subtree of a non-blank parent, without the parent's own
-- unmerged leaves (RFC 9420, 7.9).
abbrev pub own_hash_at : (List ℕ → List ℕ) → Tree → ℕ → Option (List ℕ)
own_hash_at H t node_index = option_and_then (λ p. original_tree_hash_at H p.unmerged t node_index) (parent_at t node_index)

-- `AreOwnHashes H t own`: each hash that the list has, at index k, is the one of the parent at node index 2 * k + 1.
abbrev pub AreOwnHashes : (List ℕ → List ℕ) → Tree → List (Option (List ℕ)) → Type 0
AreOwnHashes H t own =
    (k : ℕ) (hash : List ℕ) → slice_get own k ≡ Some (Some hash) → own_hash_at H t (2 * k + 1) ≡ Some hash

-- What is known of the hashes of a tree: the tree hashes of its subtrees, by node index, and own hashes of parents,
-- from left to right.
pub record KnownHashes : Type 0 where
  pub subtrees : List (List ℕ)
  pub own : List (Option (List ℕ))

-- `AreKnownHashes H t known`: the known hashes are those of the tree (RFC 9420, 7.8 and 7.9).
pub record AreKnownHashes (H : List ℕ → List ℕ) (t : Tree) (known : KnownHashes) : Type 0 where
  pub subtrees : AreSubtreeHashes H t known.subtrees
  pub own : AreOwnHashes H t known.own

-- `HasNonDecreasingLists t`: the unmerged list of every non-blank parent does not decrease (RFC 9420, 7.1).
abbrev pub HasNonDecreasingLists : Tree → Type 0
HasNonDecreasingLists t = (node_index : ℕ) (p : ParentNode) → parent_at t node_index ≡ Some p → IsNonDecreasing p.unmerged
