use Rattle.mls_index.proofs.Tables.{listed-first}
use Rattle.mls_index.proofs.entry_table.KeyList.new.Goals as goal

pub returns : goal.returns
returns c = λ x. listed-first x _ c.new.ensures.items c.new-2.ensures
