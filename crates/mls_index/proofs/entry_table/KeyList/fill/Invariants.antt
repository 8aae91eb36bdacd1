use Rattle.mls_index.specs.EntryTableInternal.{ListsFirst, number_at}
use Rattle.mls_index.proofs.entry_table.KeyList.fill.Given as goal

abbrev pub invariant-loop-node_index : goal.invariant-loop-node_index
invariant-loop-node_index l = ListsFirst (number_at l.choice l.kind l.tree.tree) l.node_index l.self
