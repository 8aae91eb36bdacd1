-- Vectors of the kind `tree-math`: the node indices of a tree (RFC 9420, 4.1.1 and Appendix C). `d` is a vector. Used
-- by contracts.
use Rattle.std.specs.Prelude.{ℕ, ◌*◌, ◌-◌, List, [], ◌∷◌, codes, Option, Some, None, option_map, ◌≡◌, ◌⊎◌, MatchOption}
use Rattle.serde_json.specs.Data.{Data, null, boolean, number, string, array, object}
use Rattle.serde_json.specs.Find.{as_u64}
use Rattle.mls_tree.specs.RatchetTree.{RatchetTree}
use Rattle.mls_tree.specs.Tree.{Tree, leaf_count, root_node_index}
use Rattle.mls_tree.specs.NodeIndices.{left_at, right_at, IsParentOf, AreSiblings}
use Rattle.mls_vectors.specs.VectorResults.{Check, check, VectorResult, IsVectorResult, IsEarlyFailure}
use Rattle.mls_vectors.specs.VectorFile.{whole_under, HasEntries}

-- `entry_node_index d` is the node index of an entry of an array: a number, or null for none.
abbrev pub entry_node_index : Data → Option (Option ℕ)
entry_node_index null = Some None
entry_node_index (boolean b) = None
entry_node_index (number n) = option_map (λ (p : ℕ). Some p) (as_u64 n)
entry_node_index (string s) = None
entry_node_index (array ds) = None
entry_node_index (object ms) = None

-- A relation of a tree, a node index, and the node index that an entry must have for it.
abbrev pub Relation : Type 1
Relation = Tree → ℕ → Option ℕ → Type 0

-- `IsLeftOrNone` and `IsRightOrNone`: the left and the right child (RFC 9420, Appendix C).
abbrev pub IsLeftOrNone : Relation
IsLeftOrNone t p node_index = node_index ≡ left_at t p

abbrev pub IsRightOrNone : Relation
IsRightOrNone t p node_index = node_index ≡ right_at t p

-- `IsParentOrNone` and `IsSiblingOrNone`: the parent and the sibling (RFC 9420, Appendix C). The root has none.
abbrev pub IsParentOrNone : Relation
IsParentOrNone t p node_index = MatchOption node_index ((q : ℕ) → ¬ IsParentOf t q p) (λ q. IsParentOf t q p)

abbrev pub IsSiblingOrNone : Relation
IsSiblingOrNone t p node_index = MatchOption node_index ((q : ℕ) → ¬ AreSiblings t p q) (λ q. AreSiblings t p q)

-- `IsEntry R t p d`: an entry has the node index that R requires for node index p.
abbrev pub IsEntry : Relation → Tree → ℕ → Data → Type 0
IsEntry R t p d = (node_index : Option ℕ) × (entry_node_index d ≡ Some node_index) × R t p node_index

-- `HasSize d t`: the tree has as many leaves as the vector says.
abbrev pub HasSize : Data → RatchetTree → Type 0
HasSize d t = whole_under (codes "n_leaves") d ≡ Some (leaf_count t.tree)

-- `size_checks d` is the first check: there is such a tree.
abbrev pub size_checks : Data → List Check
size_checks d = check (codes "n_leaves") ((t : RatchetTree) × HasSize d t) ∷ []

-- `node_index_checks t d` is the further checks, by a tree of that size: a tree of n leaves has 2 * n - 1 nodes (RFC
-- 9420, Appendix C).
abbrev pub node_index_checks : Tree → Data → List Check
node_index_checks t d =
    check (codes "n_nodes") (whole_under (codes "n_nodes") d ≡ Some (2 * leaf_count t - 1))
    ∷ check (codes "root") (whole_under (codes "root") d ≡ Some (root_node_index 0 t))
    ∷ check (codes "left") (HasEntries (IsEntry IsLeftOrNone t) (leaf_count t) (codes "left") d)
    ∷ check (codes "right") (HasEntries (IsEntry IsRightOrNone t) (leaf_count t) (codes "right") d)
    ∷ check (codes "parent") (HasEntries (IsEntry IsParentOrNone t) (leaf_count t) (codes "parent") d)
    ∷ check (codes "sibling") (HasEntries (IsEntry IsSiblingOrNone t) (leaf_count t) (codes "sibling") d)
    ∷ []

-- `IsSizedOutcome d o`: the result of a vector whose size is that of a tree.
pub record IsSizedOutcome (d : Data) (o : VectorResult) : Type 0 where
  pub tree : RatchetTree
  pub size : HasSize d tree
  pub outcome : IsVectorResult (node_index_checks tree.tree d) o

-- `IsTreeMath d o`: the result of a vector.
abbrev pub IsTreeMath : Data → VectorResult → Type 0
IsTreeMath d o = IsEarlyFailure (size_checks d) o ⊎ IsSizedOutcome d o
