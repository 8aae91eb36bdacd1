-- Results of calls that hash a subtree. Internal: no public contract uses this.
use Rattle.std.specs.Prelude.{◌≡◌, ℕ, List, Option, Some, None, Result, Ok, Err}
use Rattle.mls_tree.specs.Tree.{Subtree}
use Rattle.mls_hash.specs.declared.fault.HashFault.{HashFault}
use Rattle.mls_hash.specs.declared.fault.HashFault.TheVariants as faults

-- `HashesSubtree found hash result`: a call returned the hash of the subtree, or NoSuchNode if there is none.
abbrev pub HashesSubtree : Option Subtree → Option (List ℕ) → Result (List ℕ) HashFault → Type 0
HashesSubtree found hash (Ok h) = hash ≡ Some h
HashesSubtree found hash (Err faults.UnsupportedSuite) = ⊥
HashesSubtree found hash (Err faults.NoSuchNode) = found ≡ None
HashesSubtree found hash (Err faults.TooLong) = ⊥
HashesSubtree found hash (Err faults.OutOfMemory) = ⊥
