-- The model of a StagedTree: a tree that is changed in place, and the tree before these changes. Used by contracts.
use Rattle.std.specs.Prelude.{◌≡◌, Bool, true}
use Rattle.mls_tree.specs.Tree.{Tree}

-- `Staged` is the tree before the changes, the tree as it is, whether the index has what changed, and whether the index
-- is that of the tree before the changes.
pub record Staged : Type 0 where
  pub base : Tree
  pub tree : Tree
  pub indexed : Bool
  pub clean : Bool

-- `IsSettled s`: the tree has no changes, and the index is that of the tree.
pub record IsSettled (s : Staged) : Type 0 where
  pub same : s.base ≡ s.tree
  pub clean : s.clean ≡ true
