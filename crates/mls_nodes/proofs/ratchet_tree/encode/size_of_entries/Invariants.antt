use Rattle.std.proofs.Common.{◌≡◌, take, map, Some}
use Rattle.mls_wire.specs.SaturatingSizes.{size}
use Rattle.mls_wire.specs.Encoding.{items, optional}
use Rattle.mls_nodes.specs.NodeValues.{entry_value}
use Rattle.mls_nodes.specs.Layout.{node}
use Rattle.mls_nodes.proofs.ratchet_tree.encode.size_of_entries.Given as goal

abbrev pub invariant-loop-entry : goal.invariant-loop-entry
invariant-loop-entry l = record {
  size : Some l.total ≡ size (items (optional node) (take l.entry-index (map entry_value l.entries)));
}
