use Rattle.std.proofs.Common.{◌≤◌, length, map}
use Rattle.mls_wire.specs.Limits.{input_limit}
use Rattle.mls_nodes.specs.NodeValues.{entry_value}
use Rattle.mls_nodes.proofs.RestOfTree.{ReadBefore}
use Rattle.mls_nodes.proofs.ratchet_tree.decode.read_tree.Given as goal

-- the entries read, followed by those still to be read, are the tree
abbrev pub invariant-loop-entries : goal.invariant-loop-entries
invariant-loop-entries l = record {
  whole : ReadBefore l.bytes (map entry_value l.entries.items) l.reader.rest;
  short : length l.bytes ≤ input_limit;
}

abbrev pub decreases-loop-entries : goal.decreases-loop-entries
decreases-loop-entries l = length l.reader.unread
