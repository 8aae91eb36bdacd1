-- What the changes of a tree have replaced, and the tree before these changes. Contracts name no undo entry of a journal.
-- Used by contracts.
use Rattle.std.specs.Prelude.{◌≡◌, nat_lt, if◌then◌else◌, List, [], ◌∷◌, option_map}
use Rattle.mls_tree.specs.Tree.{Tree, leaf_count}
use Rattle.mls_tree.specs.TreeOperations.{put_leaf, put_parent, change_parent, without_unmerged, left_subtree, rejoined}
use Rattle.mls_tree.specs.declared.journal.UndoEntry.{UndoEntry}
use Rattle.mls_tree.specs.declared.journal.UndoEntry.TheVariants.{Leaf, Parent, AddedUnmerged, Extended, Truncated, Hash}
use Rattle.mls_tree.specs.declared.journal.Journal.{Journal}

-- `undone x t` is the tree before a change whose undo entry is `x`.
abbrev pub undone : UndoEntry → Tree → Tree
undone (Leaf i x) t = if nat_lt i (leaf_count t) then put_leaf 0 t i x else t
undone (Parent p x) t = put_parent 0 t p (option_map (λ b. b.value) x)
undone (AddedUnmerged p i) t = change_parent (without_unmerged i) 0 t p
undone Extended t = left_subtree t
undone (Truncated b) t = rejoined t b.value.tree
undone (Hash b) t = t

-- `all_undone xs t` is the tree before changes with these undo entries. The last one is undone first.
abbrev pub all_undone : List UndoEntry → Tree → Tree
all_undone [] t = t
all_undone (x ∷ xs) t = undone x (all_undone xs t)

-- `before j t` is the tree before the changes that the journal has logged.
abbrev pub before : Journal → Tree → Tree
before j t = all_undone j.formers.items t

-- `IsEmptyJournal j`: the journal has logged no change.
abbrev pub IsEmptyJournal : Journal → Type 0
IsEmptyJournal j = (t : Tree) → before j t ≡ t
