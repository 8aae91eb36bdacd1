use Rattle.std.proofs.lemmas.List.{nil_from_length}
use Rattle.mls_index.proofs.Entries.{empty-entries}
use Rattle.mls_index.proofs.entry_table.EntryTable.is_empty.Goals as goal

pub returns : goal.returns
returns c = λ yes. empty-entries c.args.self.now.entries (nil_from_length c.args.self.now.entries.keys (c.is_empty.ensures.0 yes))
