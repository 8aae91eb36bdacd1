use Rattle.std.proofs.Common.{◌≡◌, ◌≤◌, map, take, length}
use Rattle.mls_nodes.specs.NodeValues.{entry_value}
use Rattle.mls_nodes.specs.RatchetTreeEncoding.{trimmed}
use Rattle.mls_nodes.proofs.ratchet_tree.encode.trimmed_entries.Given as goal

abbrev pub invariant-loop-count : goal.invariant-loop-count
invariant-loop-count l = record {
  same : trimmed (map entry_value (take l.count l.entries)) ≡ trimmed (map entry_value l.entries);
  within : l.count ≤ length l.entries;
}

abbrev pub decreases-loop-count : goal.decreases-loop-count
decreases-loop-count l = l.count
