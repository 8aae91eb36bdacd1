use Rattle.std.proofs.Common.{◌≡◌, ◌≤◌, ◌+◌, ◌-◌, ℕ, length}
use Rattle.mls_index.specs.EntryTable.{base_at}
use Rattle.mls_index.proofs.entry_table.EntryTable.make_room.Given as goal

abbrev pub invariant-loop-self : goal.invariant-loop-self
invariant-loop-self l = record {
  base : (p : ℕ) → base_at l.self p ≡ base_at l.initial.self p;
  entries : l.self.entries ≡ l.initial.self.entries;
  came : l.self.came ≡ l.initial.self.came;
  long : length l.initial.self.numbers ≤ length l.self.numbers;
}

abbrev pub decreases-loop-self : goal.decreases-loop-self
decreases-loop-self l = l.node_index + 1 - length l.self.numbers
