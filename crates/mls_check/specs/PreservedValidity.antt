-- What the operations on a tree preserve of its validity (RFC 9420, 7.1, 7.7, 7.9.2 and 12.1). Used by contracts.
use Rattle.std.specs.Prelude.{◌≡◌, ℕ, List, Some}
use Rattle.mls_nodes.specs.declared.leaf.LeafNode.{LeafNode}
use Rattle.mls_tree.specs.Tree.{Tree, leaf_count, Subtree, subtree_at}
use Rattle.mls_tree.specs.TreeOperations.{update, remove, truncate, extend, add}
use Rattle.mls_check.specs.ParentHashValid.{IsNonBlankParent, ParentHashStep, IsParentHashValid}
use Rattle.mls_check.specs.UnmergedLists.{HasStrictlyIncreasingLists, HasConsistentUnmerged}

-- `HasValidUnmergedLists t`: the unmerged lists are strictly increasing and consistent (RFC 9420, 7.1 and 12.4.3.1).
pub record HasValidUnmergedLists (t : Tree) : Type 0 where
  pub sorted : HasStrictlyIncreasingLists t
  pub consistent : HasConsistentUnmerged t

-- `IsParentHashValidTree H t`: `HasValidUnmergedLists` holds, and every non-blank parent is parent-hash valid (RFC 9420,
-- 7.9.2).
pub record IsParentHashValidTree (H : List ℕ → List ℕ) (t : Tree) : Type 0 where
  pub sorted : HasStrictlyIncreasingLists t
  pub consistent : HasConsistentUnmerged t
  pub parent_hashes : IsParentHashValid H t

-- ---- a member is added (RFC 9420, 12.1.1); a tree without a blank leaf is extended first

-- Adding a member preserves `HasValidUnmergedLists`.
abbrev pub AddsKeepLists : Type 0
AddsKeepLists = (t : Tree) (x : LeafNode) → HasValidUnmergedLists t → HasValidUnmergedLists (add t x)

-- `IsStepAt H t low high`: there is a parent-hash link between the subtrees at two node indices.
abbrev pub IsStepAt : (List ℕ → List ℕ) → Tree → ℕ → ℕ → Type 0
IsStepAt H t low high =
    (descendant above : Subtree) → subtree_at 0 t low ≡ Some descendant → subtree_at 0 t high ≡ Some above → ParentHashStep H (leaf_count t) descendant above

-- Adding a member preserves each parent-hash link, between the subtrees at the same node indices.
abbrev pub AddsKeepSteps : Type 0
AddsKeepSteps =
    (H : List ℕ → List ℕ) (t : Tree) (x : LeafNode) (descendant above : Subtree) (low high : ℕ) → HasConsistentUnmerged t
    → subtree_at 0 t low ≡ Some descendant → subtree_at 0 t high ≡ Some above → ParentHashStep H (leaf_count t) descendant above
    → IsStepAt H (add t x) low high

-- Adding a member preserves `IsParentHashValidTree`.
abbrev pub AddsPreserveValidity : Type 0
AddsPreserveValidity = (H : List ℕ → List ℕ) (t : Tree) (x : LeafNode) → IsParentHashValidTree H t → IsParentHashValidTree H (add t x)

-- ---- the other operations

-- `HasParentsOf t u`: each non-blank parent of `t` is in `u` at the same node index, with the same subtree.
abbrev pub HasParentsOf : Tree → Tree → Type 0
HasParentsOf t u = (p : ℕ) (s : Subtree) → subtree_at 0 t p ≡ Some s → IsNonBlankParent s.tree → subtree_at 0 u p ≡ Some s

-- An operation that changes no subtree of a non-blank parent that remains preserves `IsParentHashValidTree`: the list
-- and the links of a parent are in its subtree.
abbrev pub EqualParentsPreserveValidity : Type 0
EqualParentsPreserveValidity = (H : List ℕ → List ℕ) (t u : Tree) → HasParentsOf t u → IsParentHashValidTree H u → IsParentHashValidTree H t

-- Replacing a leaf changes no such subtree (RFC 9420, 12.1.2).
abbrev pub UpdatesTouchNoParent : Type 0
UpdatesTouchNoParent = (t : Tree) (i : ℕ) (x : LeafNode) → HasParentsOf (update t i x) t

-- Removing a leaf, and truncating the tree, changes no such subtree (RFC 9420, 12.1.3).
abbrev pub RemovesTouchNoParent : Type 0
RemovesTouchNoParent = (t : Tree) (i : ℕ) → HasParentsOf (remove t i) t

-- Truncating the tree changes no such subtree (RFC 9420, 7.7).
abbrev pub ShrinkingTouchesNoParent : Type 0
ShrinkingTouchesNoParent = (t : Tree) → HasParentsOf (truncate t) t

-- Extending the tree changes no such subtree (RFC 9420, 7.7).
abbrev pub GrowingTouchesNoParent : Type 0
GrowingTouchesNoParent = (t : Tree) → HasParentsOf (extend t) t
