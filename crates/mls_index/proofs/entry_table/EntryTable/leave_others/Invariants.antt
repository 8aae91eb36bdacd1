use Rattle.std.proofs.Common.{◌≡◌, ℕ, [], true, vec_len}
use Rattle.mls_index.specs.EntryTable.{base_at, has_entry}
use Rattle.mls_index.specs.EntryTableInternal.{AreSettled}
use Rattle.mls_index.proofs.entry_table.EntryTable.leave_others.Given as goal

abbrev pub invariant-loop-number : goal.invariant-loop-number
invariant-loop-number l = record {
  settled : AreSettled [] l.initial.self → AreSettled [] l.self;
  base : (p : ℕ) → base_at l.self p ≡ base_at l.initial.self p;
  only : (b p : ℕ) → has_entry l.self.entries b p ≡ true → has_entry l.initial.self.entries b p ≡ true;
}

abbrev pub decreases-loop-number : goal.decreases-loop-number
decreases-loop-number l = vec_len l.self.came
