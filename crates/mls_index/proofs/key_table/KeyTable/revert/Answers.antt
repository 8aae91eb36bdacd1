use Rattle.mls_index.proofs.KeyTables.{table-reverted}
use Rattle.mls_index.proofs.key_table.KeyTable.revert.Goals as goal

pub returns : goal.returns
returns c = λ kind t h. table-reverted kind t c.args.self.now _ c.revert.ensures.index c.revert-2.ensures.index c.revert.ensures.only h
