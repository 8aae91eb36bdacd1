-- Counts of the credential types of a tree's leaves, and what the counts become when changes are undone. `t` is a tree,
-- `c` the counts. Used by contracts.
use Rattle.std.specs.Prelude.{◌≡◌, length}
use Rattle.mls_tree.specs.Tree.{Tree}
use Rattle.mls_index.specs.LeafCredentials.{AreClassesOf, classes_before}
use Rattle.mls_index.specs.declared.credential_counts.CredentialCounts.{CredentialCounts}

-- `Count t c`: the counts are those of the tree.
abbrev pub Count : Tree → CredentialCounts → Type 0
Count t c = AreClassesOf t c.classes.list.items

-- `HaveBase t c`: the counts are those of the tree once all that was replaced is undone.
abbrev pub HaveBase : Tree → CredentialCounts → Type 0
HaveBase t c = AreClassesOf t (classes_before c.replaced.items c.classes.list.items)

-- `AreCountsOf t c`: the counts are those of the tree, and there is nothing to undo.
pub record AreCountsOf (t : Tree) (c : CredentialCounts) : Type 0 where
  pub counted : Count t c
  pub none_replaced : length c.replaced.items ≡ 0
