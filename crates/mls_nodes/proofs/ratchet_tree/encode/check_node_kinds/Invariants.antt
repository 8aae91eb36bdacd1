use Rattle.std.proofs.Common.{◌≡◌, ◌≤◌, map, take, true}
use Rattle.mls_nodes.specs.NodeValues.{entry_value}
use Rattle.mls_nodes.specs.RatchetTreeEncoding.{fit_from}
use Rattle.mls_nodes.proofs.ratchet_tree.encode.check_node_kinds.Given as goal

abbrev pub invariant-loop-node_index : goal.invariant-loop-node_index
invariant-loop-node_index l = record {
  stand : fit_from 0 (take l.node_index (map entry_value l.entries)) ≡ true;
  few : l.node_index ≤ 2097151;
}
