use Rattle.mls_index.proofs.Entries.{empty-entries}
use Rattle.mls_index.proofs.Tables.{table-empty}
use Rattle.mls_index.proofs.entry_table.EntryTable.new.Goals as goal

pub returns : goal.returns
returns c = table-empty _ c.new-2.ensures c.new-3.ensures.items (empty-entries c.new.result c.new.ensures.empty)
