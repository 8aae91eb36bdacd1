-- A tree that is like the tree after a proposal list (RFC 9420, 12.3), except for the leaf nodes of the added members.
-- Used by contracts.
use Rattle.std.specs.Prelude.{◌≡◌, ◌≢◌, ℕ, List, [], ◌∷◌, Option, Some, ⊤}
use Rattle.mls_tree.specs.Tree.{Tree, leaf_at}
use Rattle.mls_apply.specs.AppliedList.{AppliedTree, applied_tree}

-- `IsApart js i`: the leaf index `i` is none of the leaf indices `js`.
abbrev pub IsApart : List ℕ → ℕ → Type 0
IsApart [] i = ⊤
IsApart (j ∷ js) i = (i ≢ j) × IsApart js i

-- `IsOutline o added u`: `o` is a tree with the added leaves `added`, and each leaf of `u` that was not added is that of the
-- tree.
pub record IsOutline (o : Option AppliedTree) (added : List ℕ) (u : Tree) : Type 0 where
  pub tree : Tree
  pub is : o ≡ Some (applied_tree tree added)
  pub others : (j : ℕ) → IsApart added j → leaf_at 0 u j ≡ leaf_at 0 tree j
