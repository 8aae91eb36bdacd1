use Rattle.std.proofs.Common.{sym, arith}
use Rattle.mls_index.specs.EntryTable.{base_at}
use Rattle.mls_index.proofs.Tables.{base-beyond}
use Rattle.mls_index.proofs.entry_table.EntryTable.stored_at.Goals as goal

pub returns-then-index-len : goal.returns-then-index-len
returns-then-index-len c = sym (base-beyond c.args.self.now c.args.node_index (omega (arith, c.len.ensures, c.if-index-len.true)))

pub returns : goal.returns
unfolding base_at
returns c = c.get.ensures
