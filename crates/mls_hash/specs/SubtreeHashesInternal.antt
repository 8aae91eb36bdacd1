-- Lists of the tree hashes of subtrees while they are filled (RFC 9420, 7.8). H is a hash function. Internal: no public
-- contract uses this.
use Rattle.std.specs.Prelude.{◌≡◌, ℕ, zero, suc, ◌+◌, ◌*◌, ◌<◌, List, [], ◌∷◌, Option, Some, None, IsSome, All, length, slice_get}
use Rattle.std.specs.Coded.{Coded-set, coded_ℕ, coded_list, coded_option}
use native.Mathlib.Nat.{ℕ_set}
use Rattle.mls_tree.specs.Tree.{Tree, leaf_count, Subtree, subtree_at}
use Rattle.mls_hash.specs.SuiteHash.{hash_length}
use Rattle.mls_tree.specs.HashCache.{hash_in}
use Rattle.mls_tree.specs.HashLists.{EqualHashes}
use Rattle.mls_hash.specs.WithoutLeaves.{tree_hash_at}
use Rattle.mls_hash.specs.SubtreeHashes.{IsSubtreeHashAt, AreAllHashes, IsLeafOf}
use Rattle.mls_hash.specs.declared.subtree_hashes.Stored.{Stored}
use Rattle.mls_hash.specs.declared.subtree_hashes.Stored.TheVariants.{InTree, InList}

-- `AreAllHashes` has at most one proof.
pub AreAllHashes-prop : (H : List ℕ → List ℕ) (t : Tree) (hashes : List (List ℕ)) → IsProp (AreAllHashes H t hashes)
AreAllHashes-prop H t hashes x y = λ i. record {
  each = λ p. Coded-set (coded_option (coded_list coded_ℕ)) (slice_get hashes p) (tree_hash_at H t p) (x.each p) (y.each p) i;
  count = ℕ_set (length hashes + 1) (2 * leaf_count t) x.count y.count i;
}

-- `HasEntryForEachSubtree suite t list`: the list has an entry for each subtree, and each hash has as many bytes as the
-- suite's hashes.
pub record HasEntryForEachSubtree (suite : ℕ) (t : Tree) (list : EqualHashes) : Type 0 where
  pub count : length list.hashes + 1 ≡ 2 * leaf_count t
  pub width : list.width ≡ hash_length suite

-- `AreLeavesUnder t p leaves`: each index in the list is that of a leaf below node index p, if there is such a node.
abbrev pub AreLeavesUnder : Tree → ℕ → List ℕ → Type 0
AreLeavesUnder t p leaves = (s : Subtree) → subtree_at 0 t p ≡ Some s → All (IsLeafOf s) leaves

-- `AreHashesKept H t old new`: each hash that was right in the old list is right in the new one.
abbrev pub AreHashesKept : (List ℕ → List ℕ) → Tree → List (List ℕ) → List (List ℕ) → Type 0
AreHashesKept H t old new = (q : ℕ) → IsSubtreeHashAt H t old q → IsSubtreeHashAt H t new q

-- `AreHashesUnder H t hashes node_index`: the list has the hashes of all subtrees of the subtree at a node index.
abbrev pub AreHashesUnder : (List ℕ → List ℕ) → Tree → List (List ℕ) → ℕ → Type 0
AreHashesUnder H t hashes node_index =
    (s : Subtree) → subtree_at 0 t node_index ≡ Some s → (q : ℕ) (u : Subtree) → subtree_at s.first s.tree q ≡ Some u → IsSubtreeHashAt H t hashes q

-- `AreCachedHashes H t count slots`: each of the first `count` slots is filled with the tree hash of the subtree at its
-- node index.
abbrev pub AreCachedHashes : (List ℕ → List ℕ) → Tree → ℕ → List (Option (List ℕ)) → Type 0
AreCachedHashes H t count slots =
    (p : ℕ) → p < count → IsSome (hash_in (slice_get slots p)) × (hash_in (slice_get slots p) ≡ tree_hash_at H t p)

-- `AreFilled count slots`: the first `count` slots are filled.
abbrev pub AreFilled : ℕ → List (Option (List ℕ)) → Type 0
AreFilled count slots = (p : ℕ) → p < count → IsSome (hash_in (slice_get slots p))

-- `cached_hashes count slots` is the hashes in the first `count` slots.
abbrev pub cached_hashes : ℕ → List (Option (List ℕ)) → List (List ℕ)
cached_hashes zero slots = []
cached_hashes (suc count) [] = []
cached_hashes (suc count) (None ∷ slots) = [] ∷ cached_hashes count slots
cached_hashes (suc count) (Some hash ∷ slots) = hash ∷ cached_hashes count slots

-- `hashes_in s` is the list of the hashes.
abbrev pub hashes_in : Stored → List (List ℕ)
hashes_in (InTree tree count) = cached_hashes count tree.now.slots
hashes_in (InList list) = list.hashes

-- `AreFilledIn s`: if the hashes are in a tree, their slots are filled.
abbrev pub AreFilledIn : Stored → Type 0
AreFilledIn (InTree tree count) = AreFilled count tree.now.slots
AreFilledIn (InList list) = Unit {0}
