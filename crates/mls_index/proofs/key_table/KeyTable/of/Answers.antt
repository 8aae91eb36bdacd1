use Rattle.mls_index.proofs.KeyTables.{table-prefixes, table-fingerprints}
use Rattle.mls_index.proofs.key_table.KeyTable.of.Goals as goal

pub returns-then-has_distinct_numbers : goal.returns-then-has_distinct_numbers
returns-then-has_distinct_numbers c =
    table-prefixes c.args.kind c.args.tree.now.tree _ c.in_ok-prefixes.ensures c.new.ensures (c.has_distinct_numbers.ensures c.if-has_distinct_numbers.true)

pub returns : goal.returns
returns c = table-fingerprints c.args.kind c.args.tree.now.tree _ c.new-2.ensures c.in_ok-fingerprints.ensures
