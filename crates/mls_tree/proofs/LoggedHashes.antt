-- Hashes that a journal has logged remain right.
use Rattle.std.proofs.Common.{◌≡◌, List, [], ◌∷◌, ◌++◌, refl, sym, ap, ◌∙◌, subst}
use Rattle.mls_tree.specs.Tree.{Tree}
use Rattle.mls_tree.specs.Journals.{undone, all_undone}
use Rattle.mls_tree.specs.LoggedHashes.{IsRightEntry, AreRightEntries}
use Rattle.mls_tree.specs.LoggedHashesInternal.{Logs}
use Rattle.mls_tree.specs.declared.journal.UndoEntry.{UndoEntry}
use Rattle.mls_tree.proofs.TakenBack.{undone-last}

-- ---- the last entry

pub entries-last : (xs : List UndoEntry) (x : UndoEntry) (t : Tree) → IsRightEntry x t → AreRightEntries xs (undone x t) → AreRightEntries (xs ++ x ∷ []) t
entries-last [] x t last all = (last, tt)
entries-last (y ∷ xs) x t last all = (subst (IsRightEntry y) (sym (undone-last xs x t)) all.0, entries-last xs x t last all.1)

pub entries-before_last : (xs : List UndoEntry) (x : UndoEntry) (t : Tree) → AreRightEntries (xs ++ x ∷ []) t → IsRightEntry x t × AreRightEntries xs (undone x t)
entries-before_last [] x t all = (all.0, tt)
entries-before_last (y ∷ xs) x t all =
    let rest = entries-before_last xs x t all.1 in
    (rest.0, (subst (IsRightEntry y) (undone-last xs x t) all.0, rest.1))

-- ---- logs

pub logs-nothing : (xs : List UndoEntry) (t : Tree) → Logs xs t xs t
logs-nothing xs t = record { same = refl; hashes = λ all. all }

pub logs-then : (xs : List UndoEntry) (t : Tree) (ys : List UndoEntry) (u : Tree) (zs : List UndoEntry) (v : Tree) → Logs xs t ys u → Logs ys u zs v → Logs xs t zs v
logs-then xs t ys u zs v a b = record { same = b.same ∙ a.same; hashes = λ all. b.hashes (a.hashes all) }

-- an entry is added
pub logs-entry : (xs ys : List UndoEntry) (x : UndoEntry) (t u : Tree) → undone x u ≡ t → IsRightEntry x u → ys ≡ xs ++ x ∷ [] → Logs xs t ys u
logs-entry xs ys x t u back right pushed = record {
  same = ap (λ zs. all_undone zs u) pushed ∙ undone-last xs x u ∙ ap (all_undone xs) back;
  hashes = λ all. subst (λ zs. AreRightEntries zs u) (sym pushed) (entries-last xs x u right (subst (AreRightEntries xs) (sym back) all));
}

-- the entry of a change is added, for which capacity was reserved
pub hashes-entry : (old capacity new : List UndoEntry) (x : UndoEntry) (t u : Tree) → capacity ≡ old → undone x u ≡ t → IsRightEntry x u → new ≡ capacity ++ x ∷ []
    → AreRightEntries old t → AreRightEntries new u
hashes-entry old capacity new x t u reserved back right pushed =
    (logs-entry old new x t u back right (pushed ∙ ap (λ xs. xs ++ x ∷ []) reserved)).hashes
