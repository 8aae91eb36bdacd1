use Rattle.std.proofs.Common.{sym}
use Rattle.mls_index.proofs.Lookups.{first_shared}
use Rattle.mls_index.proofs.key_table.KeyTable.first_other.Goals as goal

pub first_with-requires : goal.first_with-requires
first_with-requires c = sym c.in-Some.ensures

pub returns : goal.returns
returns c = λ covers.
    first_shared c.args.kind c.args.tree.now.tree c.args.node_index c.in-Some.key.now c.in-Some.ensures c.first_with.result (c.first_with.ensures covers)
