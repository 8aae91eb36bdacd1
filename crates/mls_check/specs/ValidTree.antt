-- Valid trees, and the first condition that fails (RFC 9420, 7.9.2 and 12.4.3.1). H is a hash function, `hash` the tree
-- hash of the context. Used by contracts.
use Rattle.std.specs.Prelude.{◌≡◌, ◌≢◌, ◌⊎◌, ℕ, List, Some}
use Rattle.mls_tree.specs.Tree.{Tree}
use Rattle.mls_tree.specs.TreeHash.{tree_hash}
use Rattle.mls_check.specs.DistinctKeys.{HasUniqueKeyAt, IsDistinct}
use Rattle.mls_check.specs.FirstFailure.{IsFirstFailure}
use Rattle.mls_check.specs.ParentHashValid.{IsParentHashValidAt, IsParentHashValid}
use Rattle.mls_check.specs.UnmergedLists.{IsSortedAt, HasStrictlyIncreasingLists, HasConsistentUnmergedAt, HasConsistentUnmerged}
use Rattle.mls_check.specs.declared.tree_validation.TreeFault.{TreeFault}
use Rattle.mls_check.specs.declared.tree_validation.TreeFault.TheVariants.{HashDiffers, UnmergedUnsorted, UnmergedUnsound, KeyRepeated, ParentHashInvalid, OutOfMemory}

-- `Valid H hash t`: the tree has this tree hash; its unmerged lists are strictly increasing and consistent; its
-- encryption keys are distinct; every non-blank parent is parent-hash valid (RFC 9420, 12.4.3.1).
pub record Valid (H : List ℕ → List ℕ) (hash : List ℕ) (t : Tree) : Type 0 where
  pub hashed : tree_hash H 0 t ≡ Some hash
  pub sorted : HasStrictlyIncreasingLists t
  pub consistent : HasConsistentUnmerged t
  pub distinct : IsDistinct t
  pub parent_hashes : IsParentHashValid H t

-- `IsFirstUnsorted H hash t p`: the tree hash is right, and p is the first node index with an unmerged list that is not
-- strictly increasing.
pub record IsFirstUnsorted (H : List ℕ → List ℕ) (hash : List ℕ) (t : Tree) (p : ℕ) : Type 0 where
  pub hashed : tree_hash H 0 t ≡ Some hash
  pub first : IsFirstFailure (IsSortedAt t) p

-- `IsFirstInconsistent H hash t p`: the tree hash is right, the unmerged lists are strictly increasing, and p is the first
-- node index with unmerged leaves that are not consistent.
pub record IsFirstInconsistent (H : List ℕ → List ℕ) (hash : List ℕ) (t : Tree) (p : ℕ) : Type 0 where
  pub hashed : tree_hash H 0 t ≡ Some hash
  pub sorted : HasStrictlyIncreasingLists t
  pub first : IsFirstFailure (HasConsistentUnmergedAt t) p

-- `IsFirstRepeated H hash t p`: the tree hash is right, the unmerged lists are strictly increasing and consistent, and p is
-- the first node index whose encryption key another node has.
pub record IsFirstRepeated (H : List ℕ → List ℕ) (hash : List ℕ) (t : Tree) (p : ℕ) : Type 0 where
  pub hashed : tree_hash H 0 t ≡ Some hash
  pub sorted : HasStrictlyIncreasingLists t
  pub consistent : HasConsistentUnmerged t
  pub first : IsFirstFailure (HasUniqueKeyAt t) p

-- `IsFirstParentHashInvalid H hash t p`: the conditions of `Valid` before the last one hold, and p is the first node
-- index of a non-blank parent that is not parent-hash valid.
pub record IsFirstParentHashInvalid (H : List ℕ → List ℕ) (hash : List ℕ) (t : Tree) (p : ℕ) : Type 0 where
  pub hashed : tree_hash H 0 t ≡ Some hash
  pub sorted : HasStrictlyIncreasingLists t
  pub consistent : HasConsistentUnmerged t
  pub distinct : IsDistinct t
  pub first : IsFirstFailure (IsParentHashValidAt H t) p

-- `IsFirstTreeFault H hash t fault`: the fault is that of the first condition of `Valid` that fails, at the smallest
-- node index. `OutOfMemory` says nothing.
abbrev pub IsFirstTreeFault : (List ℕ → List ℕ) → List ℕ → Tree → TreeFault → Type 0
IsFirstTreeFault H hash t HashDiffers = tree_hash H 0 t ≢ Some hash
IsFirstTreeFault H hash t (UnmergedUnsorted p) = IsFirstUnsorted H hash t p
IsFirstTreeFault H hash t (UnmergedUnsound p) = IsFirstInconsistent H hash t p
IsFirstTreeFault H hash t (KeyRepeated p) = IsFirstRepeated H hash t p
IsFirstTreeFault H hash t (ParentHashInvalid p) = IsFirstParentHashInvalid H hash t p
IsFirstTreeFault H hash t OutOfMemory = Unit {0}

-- Each tree is valid, or some condition fails first at some node index.
abbrev pub ValidOrFault : Type 0
ValidOrFault = (H : List ℕ → List ℕ) (hash : List ℕ) (t : Tree)
    → Valid H hash t ⊎ ((fault : TreeFault) × (fault ≢ OutOfMemory) × IsFirstTreeFault H hash t fault)

-- Validity and a fault exclude each other.
abbrev pub NoFaultOfValid : Type 0
NoFaultOfValid = (H : List ℕ → List ℕ) (hash : List ℕ) (t : Tree) (fault : TreeFault)
    → fault ≢ OutOfMemory → IsFirstTreeFault H hash t fault → ¬ (Valid H hash t)

-- There is at most one fault.
abbrev pub TreeFaultIsUnique : Type 0
TreeFaultIsUnique = (H : List ℕ → List ℕ) (hash : List ℕ) (t : Tree) (fault other : TreeFault)
    → fault ≢ OutOfMemory → other ≢ OutOfMemory → IsFirstTreeFault H hash t fault → IsFirstTreeFault H hash t other → fault ≡ other
