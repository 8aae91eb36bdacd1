-- Tree hashes that a journal has logged, to be put back into the cache when the changes are undone (RFC 9420, 7.8). Used by
-- contracts.
use Rattle.std.specs.Prelude.{List, [], ◌∷◌, Some}
use Rattle.mls_tree.specs.Tree.{Tree}
use Rattle.mls_tree.specs.HashCache.{IsRightHash}
use Rattle.mls_tree.specs.Journals.{all_undone}
use Rattle.mls_tree.specs.declared.journal.UndoEntry.{UndoEntry}
use Rattle.mls_tree.specs.declared.journal.UndoEntry.TheVariants.{Leaf, Parent, AddedUnmerged, Extended, Truncated, Hash}
use Rattle.mls_tree.specs.declared.journal.Journal.{Journal}

-- `IsRightEntry x t`: if the undo entry `x` is a tree hash, it is that of its subtree of `t`.
abbrev pub IsRightEntry : UndoEntry → Tree → Type 0
IsRightEntry (Leaf i x) t = Unit {0}
IsRightEntry (Parent p x) t = Unit {0}
IsRightEntry (AddedUnmerged p i) t = Unit {0}
IsRightEntry Extended t = Unit {0}
IsRightEntry (Truncated b) t = Unit {0}
IsRightEntry (Hash b) t = IsRightHash (Some b.value.kind) t b.value.node_index b.value.hash

-- `AreRightEntries xs t`: `t` is a tree after changes with the undo entries `xs`, and each tree hash among these entries is
-- right for the tree before the changes that follow it.
abbrev pub AreRightEntries : List UndoEntry → Tree → Type 0
AreRightEntries [] t = Unit {0}
AreRightEntries (x ∷ xs) t = IsRightEntry x (all_undone xs t) × AreRightEntries xs t

-- `HasRightHashes j t`: if the changes of `t` that the journal has logged are undone, each logged hash is right for the tree
-- that it is put back into.
abbrev pub HasRightHashes : Journal → Tree → Type 0
HasRightHashes j t = AreRightEntries j.formers.items t
