use Rattle.mls_index.proofs.Lookups.{some_key}
use Rattle.mls_index.proofs.key_table.KeyTable.has_key.Goals as goal

pub returns : goal.returns
returns c = λ covers. some_key c.args.kind c.args.tree.now.tree c.args.key.now c.first_with.result c.is_some.result c.is_some.ensures (c.first_with.ensures covers)
