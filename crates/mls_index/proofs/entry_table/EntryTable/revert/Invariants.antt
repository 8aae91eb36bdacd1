use Rattle.std.proofs.Common.{◌≡◌, ℕ, Option, true, vec_len}
use Rattle.mls_index.specs.EntryTable.{has_entry, TableHasBase}
use Rattle.mls_index.proofs.entry_table.EntryTable.revert.Given as goal

abbrev pub invariant-loop-number : goal.invariant-loop-number
invariant-loop-number l = record {
  between : (x : ℕ → Option ℕ) → TableHasBase x l.initial.self → TableHasBase x l.self;
  only : (b p : ℕ) → has_entry l.self.entries b p ≡ true → has_entry l.initial.self.entries b p ≡ true;
}

abbrev pub decreases-loop-number : goal.decreases-loop-number
decreases-loop-number l = vec_len l.self.came
