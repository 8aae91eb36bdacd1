-- Vectors of the kind `tree-validation`: a tree with its resolutions and tree hashes, which must be valid (RFC 9420,
-- 4.1.1, 7.8 and 12.4.3.1). `d` is a vector. Used by contracts.
use Rattle.std.specs.Prelude.{ℕ, ◌==◌, ◌&&◌, Bool, true, false, List, [], ◌∷◌, codes, Option, Some, None, option_and_then, ◌≡◌, ◌⊎◌}
use Rattle.serde_json.specs.Data.{Num, unsigned, negative, float, Data, Items, no_items, item}
use Rattle.serde_json.specs.Find.{as_array, as_number, as_u64}
use Rattle.mls_tree.specs.RatchetTree.{RatchetTree}
use Rattle.mls_tree.specs.TreeDecoding.{IsTreeOf}
use Rattle.mls_tree.specs.Tree.{Tree, leaf_count}
use Rattle.mls_tree.specs.Paths.{resolution_at}
use Rattle.mls_hash.specs.SuiteHash.{hash_of}
use Rattle.mls_hash.specs.WithoutLeaves.{tree_hash_at}
use Rattle.mls_hash.specs.Suites.{IsSupported}
use Rattle.mls_check.specs.ValidTree.{Valid}
use Rattle.mls_vectors.specs.VectorResults.{Check, check, VectorResult, skip, IsVectorResult, IsEarlyFailure}
use Rattle.mls_vectors.specs.VectorFile.{number_under, whole_under, bytes_of, bytes_under, HasEntries}

-- `IsOtherSuite n`: the number is a whole one, and that of no supported cipher suite (RFC 9420, 17.1).
abbrev pub IsOtherSuite : Option Num → Type 0
IsOtherSuite None = ⊥
IsOtherSuite (Some (unsigned n)) = ¬ IsSupported n
IsOtherSuite (Some (negative z)) = Unit {0}
IsOtherSuite (Some (float x)) = ⊥

-- `IsSkipped d`: the vector is of such a suite.
abbrev pub IsSkipped : Data → Type 0
IsSkipped d = IsOtherSuite (number_under (codes "cipher_suite") d)

-- `IsOutcomeUnlessSkipped R d o`: the result is that of R, or the vector is skipped.
abbrev pub IsOutcomeUnlessSkipped : (Data → VectorResult → Type 0) → Data → VectorResult → Type 0
IsOutcomeUnlessSkipped R d o = (IsSkipped d × (o ≡ skip)) ⊎ ((¬ IsSkipped d) × R d o)

-- `HasSuite d suite`: the vector has this cipher suite.
pub record HasSuite (d : Data) (suite : ℕ) : Type 0 where
  pub number : whole_under (codes "cipher_suite") d ≡ Some suite
  pub supported : IsSupported suite

-- `HasTreeUnder name d t`: the tree of the vector under a name can be read.
pub record HasTreeUnder (name : List ℕ) (d : Data) (t : RatchetTree) : Type 0 where
  pub bytes : List ℕ
  pub found : bytes_under name d ≡ Some bytes
  pub is_tree : IsTreeOf bytes t

-- `is_number n o`: the number is n.
abbrev pub is_number : ℕ → Option ℕ → Bool
is_number n None = false
is_number n (Some m) = m == n

-- `are_numbers ns items`: the entries of an array are these numbers.
abbrev pub are_numbers : List ℕ → Items → Bool
are_numbers [] no_items = true
are_numbers [] (item d ds) = false
are_numbers (n ∷ ns) no_items = false
are_numbers (n ∷ ns) (item d ds) =
    is_number n (option_and_then as_u64 (as_number d)) && are_numbers ns ds

-- `are_numbers_of ns o`: there is an array, and its entries are these numbers.
abbrev pub are_numbers_of : List ℕ → Option Items → Bool
are_numbers_of ns None = false
are_numbers_of ns (Some ds) = are_numbers ns ds

-- `has_numbers ns d`: a value is an array of these numbers.
abbrev pub has_numbers : List ℕ → Data → Bool
has_numbers ns d = are_numbers_of ns (as_array d)

-- `IsResolution t p d`: an entry has the node indices of the resolution of the node at node index p (RFC 9420, 4.1.1).
pub record IsResolution (t : Tree) (p : ℕ) (d : Data) : Type 0 where
  pub node_indices : List ℕ
  pub resolution : resolution_at t p ≡ Some node_indices
  pub same : has_numbers node_indices d ≡ true

-- `IsTreeHash H t p d`: an entry is the tree hash of the subtree at node index p (RFC 9420, 7.8).
pub record IsTreeHash (H : List ℕ → List ℕ) (t : Tree) (p : ℕ) (d : Data) : Type 0 where
  pub hash : List ℕ
  pub hashed : tree_hash_at H t p ≡ Some hash
  pub same : bytes_of d ≡ Some hash

-- `reading_checks d` is the first checks: there is a supported cipher suite, and a tree that can be read.
abbrev pub reading_checks : Data → List Check
reading_checks d =
    check (codes "cipher_suite") ((suite : ℕ) × HasSuite d suite)
    ∷ check (codes "tree") ((t : RatchetTree) × HasTreeUnder (codes "tree") d t)
    ∷ []

-- `tree_checks H t d` is the further checks. The tree is valid with its own tree hash (RFC 9420, 12.4.3.1).
abbrev pub tree_checks : (List ℕ → List ℕ) → Tree → Data → List Check
tree_checks H t d =
    check (codes "resolutions") (HasEntries (IsResolution t) (leaf_count t) (codes "resolutions") d)
    ∷ check (codes "tree_hashes")
    (HasEntries (IsTreeHash H t) (leaf_count t) (codes "tree_hashes") d)
    ∷ check (codes "valid") ((hash : List ℕ) × Valid H hash t)
    ∷ []

-- `IsTreeOutcome d o`: the result of a vector whose suite and tree can be read.
pub record IsTreeOutcome (d : Data) (o : VectorResult) : Type 0 where
  pub suite : ℕ
  pub has_suite : HasSuite d suite
  pub tree : RatchetTree
  pub has_tree : HasTreeUnder (codes "tree") d tree
  pub outcome : IsVectorResult (tree_checks (hash_of suite) tree.tree d) o

-- `IsTreeValidation d o`: the result of a vector that is not skipped.
abbrev pub IsTreeValidation : Data → VectorResult → Type 0
IsTreeValidation d o = IsEarlyFailure (reading_checks d) o ⊎ IsTreeOutcome d o
