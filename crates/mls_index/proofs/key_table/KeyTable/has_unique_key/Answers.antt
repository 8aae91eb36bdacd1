use Rattle.mls_index.proofs.Lookups.{own-other}
use Rattle.mls_index.proofs.key_table.KeyTable.has_unique_key.Goals as goal

pub returns : goal.returns
returns c = λ covers.
    own-other c.args.kind c.args.tree.now.tree c.args.node_index c.first_other.result c.is_none.result c.is_none.ensures (c.first_other.ensures covers)
