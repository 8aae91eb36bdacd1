-- How the parts of a StagedTree are related. Internal: no public contract uses this.
use Rattle.std.specs.Prelude.{List, ℕ, MatchBool, MatchOption, is_some}
use Rattle.mls_tree.specs.ChangedNodes.{AgreeExceptAt}
use Rattle.mls_tree.specs.Journals.{before}
use Rattle.mls_tree.specs.LoggedHashes.{HasRightHashes}
use Rattle.mls_tree.specs.Tree.{Tree}
use Rattle.mls_index.specs.TreeIndex.{ContainsKeysOf, HasBase, IsIndexOf}
use Rattle.mls_index.specs.declared.tree_index.TreeIndex.{TreeIndex}
use Rattle.mls_apply.specs.Staged.{Staged}
use Rattle.mls_apply.specs.declared.staged_tree.StagedTree.TheInside.{Inside}

-- `HasStagedNodes node_indices base tree index`: the index contains what the tree has at these node indices, and only
-- there the tree differs from `base`.
pub record HasStagedNodes (node_indices : List ℕ) (base tree : Tree) (index : TreeIndex) : Type 0 where
  pub covers : ContainsKeysOf tree index
  pub same : AgreeExceptAt node_indices base tree

-- `IsStaged s`: the base of the index is the tree before the changes, the index has what was added, and if it is clean it
-- is the index of that tree. The hashes that the journal has logged are right.
pub record IsStaged (s : Inside) : Type 0 where
  pub between : HasBase (before s.journal s.tree.tree) s.index
  pub staged_nodes : MatchOption s.staged_nodes (Unit {0}) (λ node_indices. HasStagedNodes node_indices.items (before s.journal s.tree.tree) s.tree.tree s.index)
  pub clean : MatchBool s.clean (IsIndexOf (before s.journal s.tree.tree) s.index) (Unit {0})
  pub hashes : HasRightHashes s.journal s.tree.tree

-- `staged s` is the tree, the one before its changes, whether the index has these, and whether it is that of the one
-- before.
abbrev pub staged : Inside → Staged
staged s = record { base = before s.journal s.tree.tree; tree = s.tree.tree; indexed = is_some s.staged_nodes; clean = s.clean }
