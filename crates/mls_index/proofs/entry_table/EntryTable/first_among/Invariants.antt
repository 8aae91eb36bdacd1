use Rattle.mls_index.specs.RepeatedKeysInternal.{HasKeyBut}
use Rattle.mls_index.proofs.Entries.{AreIncreasing, IsSought}
use Rattle.mls_index.proofs.entry_table.EntryTable.first_among.Given as goal

abbrev pub invariant-loop-entry : goal.invariant-loop-entry
invariant-loop-entry l = record {
  sought : IsSought (λ p. ¬ HasKeyBut l.kind l.tree.tree l.key l.but p) l.self.entries l.number l.entry-iterator;
  increasing : AreIncreasing l.number l.entry-iterator;
}
