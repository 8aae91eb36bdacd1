-- A path that is merged has as many keys as the filtered direct path has parents (RFC 9420, 7.6). Used by contracts.
use Rattle.std.specs.Prelude.{◌≡◌, ℕ, List, length, IsSome}
use Rattle.mls_nodes.specs.declared.leaf.LeafNode.{LeafNode}
use Rattle.mls_tree.specs.Tree.{Tree}
use Rattle.mls_apply.specs.MergePath.{merged, expected_hashes}
use Rattle.mls_apply.specs.PathRules.{path_length}

-- A path is merged only if it has a key for each parent of the filtered direct path (RFC 9420, 7.5).
abbrev pub MergesTakeEachKey : Type 0
MergesTakeEachKey =
    (H : List ℕ → List ℕ) (t : Tree) (i : ℕ) (x : LeafNode) (keys : List (List ℕ))
    → IsSome (merged H t i x keys) → length keys ≡ path_length t i

-- A path has expected parent hashes only if it has a key for each parent of the filtered direct path (RFC 9420, 7.9).
abbrev pub HashesTakeEachKey : Type 0
HashesTakeEachKey =
    (H : List ℕ → List ℕ) (t : Tree) (i : ℕ) (keys : List (List ℕ))
    → IsSome (expected_hashes H t i keys) → length keys ≡ path_length t i
