use Rattle.mls_index.specs.EntryTableInternal.{number_at}
use Rattle.mls_index.proofs.entry_table.KeyList.of.Goals as goal

pub fill-requires : goal.fill-requires
fill-requires c = c.new-list.ensures (number_at c.args.choice c.args.kind c.args.tree.now.tree)
