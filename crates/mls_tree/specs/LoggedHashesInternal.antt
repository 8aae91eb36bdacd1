-- What a change of a tree logs. Internal: no public contract uses this.
use Rattle.std.specs.Prelude.{◌≡◌, List}
use Rattle.mls_tree.specs.Tree.{Tree}
use Rattle.mls_tree.specs.Journals.{all_undone}
use Rattle.mls_tree.specs.LoggedHashes.{AreRightEntries}
use Rattle.mls_tree.specs.declared.journal.UndoEntry.{UndoEntry}

-- `Logs old t new u`: the tree `t`, with the undo entries `old`, became `u`, with the undo entries `new`. Undoing leads to
-- the same tree, and the tree hashes among the entries are right if they were.
pub record Logs (old : List UndoEntry) (t : Tree) (new : List UndoEntry) (u : Tree) : Type 0 where
  pub same : all_undone new u ≡ all_undone old t
  pub hashes : AreRightEntries old t → AreRightEntries new u
