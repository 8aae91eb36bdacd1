-- A commit preserves consistent unmerged leaves and parent-hash validity (RFC 9420, 7.9.2 and 12.4.2). Used by
-- contracts.
use Rattle.std.specs.Prelude.{◌≡◌, ℕ, ◌<◌, List, true, Some}
use Rattle.std.specs.List.{Contains}
use Rattle.mls_nodes.specs.declared.leaf.LeafNode.{LeafNode}
use Rattle.mls_tree.specs.Tree.{Tree, leaf_count}
use Rattle.mls_tree.specs.Paths.{filtered_direct_path}
use Rattle.mls_tree.specs.TreeOperations.{add, seat}
use Rattle.mls_hash.specs.SubtreeHashes.{AgreeOutside}
use Rattle.mls_check.specs.ParentHashValid.{IsParentHashValidHere}
use Rattle.mls_check.specs.PreservedValidity.{IsParentHashValidTree}
use Rattle.mls_apply.specs.declared.list_item.ListItem.{ListItem}
use Rattle.mls_apply.specs.MergePath.{merged, expected_hashes}
use Rattle.mls_apply.specs.AppliedList.{AppliedTree, outcome}
use Rattle.mls_apply.specs.PathRules.{has_first_parent_hash, path_length, copath_resolutions}

-- The proposals of a commit preserve them (RFC 9420, 12.3).
abbrev pub ProposalsPreserveValidity : Type 0
ProposalsPreserveValidity =
    (H : List ℕ → List ℕ) (items : List ListItem) (t : Tree) (g : AppliedTree)
    → outcome items t ≡ Some g → IsParentHashValidTree H t → IsParentHashValidTree H g.tree

-- After a path was merged whose leaf has the expected parent hash, each parent of the filtered direct path is
-- parent-hash valid (RFC 9420, 7.5 and 7.9).
abbrev pub MergedParentsAreValid : Type 0
MergedParentsAreValid =
    (H : List ℕ → List ℕ) (t new : Tree) (i : ℕ) (x : LeafNode) (keys : List (List ℕ)) (node_index : ℕ)
    → has_first_parent_hash x.source (expected_hashes H t i keys) ≡ true → merged H t i x keys ≡ Some new
    → Contains (filtered_direct_path (leaf_count t) 0 t i) node_index → IsParentHashValidHere H new node_index

-- Merging a path leaves each subtree outside the direct path unchanged.
abbrev pub PathsLeaveOthers : Type 0
PathsLeaveOthers =
    (H : List ℕ → List ℕ) (t new : Tree) (i : ℕ) (x : LeafNode) (keys : List (List ℕ))
    → i < leaf_count t → merged H t i x keys ≡ Some new → AgreeOutside t new i

-- Merging such a path preserves them.
abbrev pub PathsPreserveValidity : Type 0
PathsPreserveValidity =
    (H : List ℕ → List ℕ) (t new : Tree) (i : ℕ) (x : LeafNode) (keys : List (List ℕ))
    → has_first_parent_hash x.source (expected_hashes H t i keys) ≡ true
    → IsParentHashValidTree H t → merged H t i x keys ≡ Some new → IsParentHashValidTree H new

-- ---- a client that joins with a commit (12.4.3.2). It takes the leaf of the next new member, which is still blank: see
-- `seat`. The standard adds the client as by an Add, and then merges its path. `y` is any leaf node of such an Add.

-- The tree with the seat satisfies them too.
abbrev pub SeatsPreserveValidity : Type 0
SeatsPreserveValidity = (H : List ℕ → List ℕ) (t : Tree) → IsParentHashValidTree H t → IsParentHashValidTree H (seat t).tree

-- The tree after the path is that after an Add and the path.
abbrev pub JoinsMergeAsAdds : Type 0
JoinsMergeAsAdds =
    (H : List ℕ → List ℕ) (t : Tree) (x y : LeafNode) (keys : List (List ℕ))
    → merged H (seat t).tree (seat t).leaf x keys ≡ merged H (add t y) (seat t).leaf x keys

-- The parent hashes of the path are those after an Add.
abbrev pub JoinsExpectAsAdds : Type 0
JoinsExpectAsAdds =
    (H : List ℕ → List ℕ) (t : Tree) (y : LeafNode) (keys : List (List ℕ))
    → expected_hashes H (seat t).tree (seat t).leaf keys ≡ expected_hashes H (add t y) (seat t).leaf keys

-- The path has as many nodes as after an Add.
abbrev pub JoinsCountAsAdds : Type 0
JoinsCountAsAdds =
    (t : Tree) (y : LeafNode) → path_length (seat t).tree (seat t).leaf ≡ path_length (add t y) (seat t).leaf

-- The path's secrets are encrypted to the same nodes as after an Add.
abbrev pub JoinsResolveAsAdds : Type 0
JoinsResolveAsAdds =
    (t : Tree) (y : LeafNode)
    → copath_resolutions (leaf_count (seat t).tree) 0 (seat t).tree (seat t).leaf
    ≡ copath_resolutions (leaf_count (add t y)) 0 (add t y) (seat t).leaf
