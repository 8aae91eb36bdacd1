use Rattle.std.proofs.Common.{◌≡◌, map, take}
use Rattle.mls_nodes.specs.NodeValues.{entry_value}
use Rattle.mls_tree.proofs.entries.clone_entries.Given as goal

abbrev pub invariant-loop-entry : goal.invariant-loop-entry
invariant-loop-entry l = map entry_value l.out.items ≡ map entry_value (take l.entry-index l.nodes)
