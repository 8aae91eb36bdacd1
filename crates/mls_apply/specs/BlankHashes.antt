-- Tree hashes of blank subtrees (RFC 9420, 7.8). Such a hash depends on the hash function and on where the subtree is.
-- Internal: no public contract uses this.
use Rattle.std.specs.Prelude.{◌≡◌, ℕ, List, [], Option, Some, None}
use Rattle.std.specs.Coded.{Coded-set, coded_ℕ, coded_list, coded_option}
use Rattle.mls_tree.specs.Tree.{Tree, IsPerfect}
use Rattle.mls_tree.specs.Paths.{resolution_at}
use Rattle.mls_tree.specs.HashCache.{hash_at, hash_by, IsRightHash}
use Rattle.mls_tree.specs.declared.hash_kind.HashKind.{HashKind}

-- `IsBlankHash kind p h`: in each tree whose subtree at node index p has an empty resolution, that is, only blank nodes,
-- `h` is the tree hash of this subtree, by the hash function `kind`.
abbrev pub IsBlankHash : Option HashKind → ℕ → List ℕ → Type 0
IsBlankHash kind p h = (t : Tree) → IsPerfect t → resolution_at t p ≡ Some [] → IsRightHash kind t p h

-- `IsBlankHash` has at most one proof.
pub IsBlankHash-prop : (kind : Option HashKind) (p : ℕ) (h : List ℕ) → IsProp (IsBlankHash kind p h)
IsBlankHash-prop None p h x y = λ i t perfect blank. absurd {A = x t perfect blank ≡ y t perfect blank} (x t perfect blank) i
IsBlankHash-prop (Some kind) p h x y = λ i t perfect blank.
    Coded-set (coded_option (coded_list coded_ℕ)) (hash_at (hash_by kind) t p) (Some h) (x t perfect blank) (y t perfect blank) i
