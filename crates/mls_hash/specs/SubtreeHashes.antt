-- The tree hashes of all subtrees of a tree, by node index (RFC 9420, 7.8). H is a hash function. Used by contracts.
use Rattle.std.specs.Prelude.{◌≡◌, ℕ, ◌+◌, ◌*◌, ◌≤◌, ◌<◌, List, Some, All, length, slice_get}
use Rattle.mls_nodes.specs.declared.parent.ParentNode.{ParentNode}
use Rattle.mls_tree.specs.Tree.{Tree, leaf_count, Subtree, subtree_at}
use Rattle.mls_hash.specs.ParentHash.{root_parent}
use Rattle.mls_hash.specs.WithoutLeaves.{tree_hash_at}

-- `IsSubtreeHashAt H t hashes p`: the list has at position p the tree hash of the subtree at node index p, and no entry
-- if there is no such subtree.
abbrev pub IsSubtreeHashAt : (List ℕ → List ℕ) → Tree → List (List ℕ) → ℕ → Type 0
IsSubtreeHashAt H t hashes p = slice_get hashes p ≡ tree_hash_at H t p

-- `AreSubtreeHashes H t hashes`: the list has the tree hash of the subtree at each node index, and no more.
abbrev pub AreSubtreeHashes : (List ℕ → List ℕ) → Tree → List (List ℕ) → Type 0
AreSubtreeHashes H t hashes = (p : ℕ) → IsSubtreeHashAt H t hashes p

-- `AreAllHashes H t hashes`: as `AreSubtreeHashes`, and each subtree has a tree hash.
pub record AreAllHashes (H : List ℕ → List ℕ) (t : Tree) (hashes : List (List ℕ)) : Type 0 where
  pub each : AreSubtreeHashes H t hashes
  pub count : length hashes + 1 ≡ 2 * leaf_count t

-- `IsLeafOf s i`: leaf index i is that of a leaf of the subtree.
abbrev pub IsLeafOf : Subtree → ℕ → Type 0
IsLeafOf s i = (s.first ≤ i) × (i < s.first + leaf_count s.tree)

-- `HasLeafUnder t p i`: the subtree at node index p has leaf i.
pub record HasLeafUnder (t : Tree) (p i : ℕ) : Type 0 where
  pub subtree : Subtree
  pub there : subtree_at 0 t p ≡ Some subtree
  pub inside : IsLeafOf subtree i

-- `AgreeOutside t u i`: the trees differ at most at leaf i and at the parents above it. At each node index whose
-- subtree in `u` does not have leaf i, `t` has the subtree of `u`.
abbrev pub AgreeOutside : Tree → Tree → ℕ → Type 0
AgreeOutside t u i = (p : ℕ) → ¬ (HasLeafUnder u p i) → subtree_at 0 t p ≡ subtree_at 0 u p

-- `HoldsOwnLeavesAt t p`: each unmerged leaf of the parent at node index p, if it is non-blank, is the index of a leaf
-- below it.
abbrev pub HoldsOwnLeavesAt : Tree → ℕ → Type 0
HoldsOwnLeavesAt t p = (s : Subtree) (q : ParentNode) → subtree_at 0 t p ≡ Some s → root_parent s.tree ≡ Some q → All (IsLeafOf s) q.unmerged

-- `HoldsOwnLeaves t`: the unmerged leaves of every non-blank parent are leaves below it.
abbrev pub HoldsOwnLeaves : Tree → Type 0
HoldsOwnLeaves t = (p : ℕ) → HoldsOwnLeavesAt t p
