use Rattle.std.proofs.Common.{None}
use Rattle.mls_index.proofs.Apart.{AreApart}
use Rattle.mls_index.proofs.entry_table.EntryTable.has_distinct_numbers.Given as goal

-- if the rest is apart, all are
abbrev pub invariant-loop-entry : goal.invariant-loop-entry
invariant-loop-entry l = AreApart l.last l.entry-iterator → AreApart None l.self.entries.keys
