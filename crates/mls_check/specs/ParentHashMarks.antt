-- Marks of the parents that are known to be parent-hash valid, one for each node index. Internal: no public contract
-- uses this.
use Rattle.std.specs.Prelude.{◌≡◌, ◌≢◌, ◌⊎◌, ℕ, ◌*◌, ◌%◌, ◌<◌, Bool, true, false, List, [], ◌∷◌, Option, Some, None, MatchOption, slice_index_or}
use Rattle.std.specs.List.{Contains}
use Rattle.mls_tree.specs.Tree.{Tree, leaf_count, Subtree, subtree_at, node_at}
use Rattle.mls_tree.specs.Paths.{resolution_at}
use Rattle.mls_hash.specs.ParentHash.{parent_hash_at}
use Rattle.mls_hash.specs.declared.side.Side.{Side}
use Rattle.mls_check.specs.ParentHashValid.{ParentHashValid, linked_hash, IsNonBlankParent}

-- `IsLeafInList list u`: node index u is that of a leaf of the list.
abbrev pub IsLeafInList : List ℕ → ℕ → Type 0
IsLeafInList list u = (i : ℕ) × Contains list i × (u ≡ 2 * i)

-- `IsOnlyUnlisted list node_indices p`: node index p is among `node_indices`, and each other of these is that of a leaf
-- of the list.
pub record IsOnlyUnlisted (list node_indices : List ℕ) (p : ℕ) : Type 0 where
  pub here : Contains node_indices p
  pub unlisted : ¬ IsLeafInList list p
  pub others : (u : ℕ) → Contains node_indices u → u ≢ p → IsLeafInList list u

-- `RisesInLeaves node_indices`: the node indices of leaves increase along the list.
abbrev pub RisesInLeaves : List ℕ → Type 0
RisesInLeaves [] = Unit {0}
RisesInLeaves (p ∷ ps) = (p % 2 ≡ 0 → (u : ℕ) → Contains ps u → u % 2 ≡ 0 → p < u) × RisesInLeaves ps

-- `IsMarked marks q`: the node at node index q is marked.
abbrev pub IsMarked : List Bool → ℕ → Type 0
IsMarked marks q = slice_index_or marks q false ≡ true

-- `IsChainEnd marks q`: a chain from a leaf leads to the node at node index q. It is a leaf, or marked.
abbrev pub IsChainEnd : List Bool → ℕ → Type 0
IsChainEnd marks q = (q % 2 ≡ 0) ⊎ IsMarked marks q

-- `IsChainPredecessor t list child marks p`: p is the only node of the resolution of a child that is not an unmerged
-- leaf in the list, and a chain leads to it.
pub record IsChainPredecessor (t : Tree) (list : List ℕ) (child : ℕ) (marks : List Bool) (p : ℕ) : Type 0 where
  pub node_indices : List ℕ
  pub resolved : resolution_at t child ≡ Some node_indices
  pub lone : IsOnlyUnlisted list node_indices p
  pub ended : IsChainEnd marks p

-- `IsChainPredecessorIn t list child marks o`: `o` is the chain predecessor in a child, or `None` if there is none.
abbrev pub IsChainPredecessorIn : Tree → List ℕ → ℕ → List Bool → Option ℕ → Type 0
IsChainPredecessorIn t list child marks o = MatchOption o ((p : ℕ) → ¬ IsChainPredecessor t list child marks p) (λ p. IsChainPredecessor t list child marks p)

-- `HasParentHash H t node_index side below`: the node at `below`, if there is one, has the parent hash of the parent at
-- `node_index` whose child on the copath is on `side`.
abbrev pub HasParentHash : (List ℕ → List ℕ) → Tree → ℕ → Side → Option ℕ → Type 0
HasParentHash H t node_index side None = ⊥
HasParentHash H t node_index side (Some below) = (hash : List ℕ) × (linked_hash (node_at t below) ≡ Some hash) × (parent_hash_at H t node_index side ≡ Some hash)

-- `MarksAreValid H t marks`: each marked parent is parent-hash valid.
abbrev pub MarksAreValid : (List ℕ → List ℕ) → Tree → List Bool → Type 0
MarksAreValid H t marks = (q : ℕ) → IsMarked marks q → (s : Subtree) → subtree_at 0 t q ≡ Some s → ParentHashValid H (leaf_count t) s

-- `AreKept old new`: what was marked is still marked.
abbrev pub AreKept : List Bool → List Bool → Type 0
AreKept old new = (q : ℕ) → IsMarked old q → IsMarked new q

-- `AreAllMarked H leaves marks s`: each parent-hash valid parent of a subtree is marked.
abbrev pub AreAllMarked : (List ℕ → List ℕ) → ℕ → List Bool → Subtree → Type 0
AreAllMarked H leaves marks s = (q : ℕ) (u : Subtree) → subtree_at s.first s.tree q ≡ Some u → ParentHashValid H leaves u → IsMarked marks q

-- `AreAllMarkedAt H t marks node_index`: as `AreAllMarked`, of the subtree at a node index.
abbrev pub AreAllMarkedAt : (List ℕ → List ℕ) → Tree → List Bool → ℕ → Type 0
AreAllMarkedAt H t marks node_index = (s : Subtree) → subtree_at 0 t node_index ≡ Some s → AreAllMarked H (leaf_count t) marks s

-- `AreAllMarkedUnder H t marks node_index`: as `AreAllMarkedAt`, without the parent at the node index itself.
abbrev pub AreAllMarkedUnder : (List ℕ → List ℕ) → Tree → List Bool → ℕ → Type 0
AreAllMarkedUnder H t marks node_index =
    (s : Subtree) → subtree_at 0 t node_index ≡ Some s → (q : ℕ) (u : Subtree) → q ≢ node_index → subtree_at s.first s.tree q ≡ Some u → ParentHashValid H (leaf_count t) u → IsMarked marks q

-- `IsMarkedAt t marks p`: the parent at node index p is marked, if it is non-blank.
abbrev pub IsMarkedAt : Tree → List Bool → ℕ → Type 0
IsMarkedAt t marks p = (s : Subtree) → subtree_at 0 t p ≡ Some s → IsNonBlankParent s.tree → IsMarked marks p
