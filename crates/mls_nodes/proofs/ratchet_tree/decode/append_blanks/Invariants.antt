use Rattle.std.proofs.Common.{◌≡◌, ◌≤◌, ◌-◌, ◌++◌, map, replicate, vec_len, None}
use Rattle.mls_nodes.specs.NodeValues.{entry_value}
use Rattle.mls_nodes.specs.RatchetTreeEncoding.{filled}
use Rattle.mls_nodes.proofs.ratchet_tree.decode.append_blanks.Given as goal

abbrev pub invariant-loop-entries : goal.invariant-loop-entries
invariant-loop-entries l = record {
  full : map entry_value l.entries.items ++ replicate (l.size - vec_len l.entries) None ≡ filled (map entry_value l.fn.entries.items);
  within : vec_len l.entries ≤ l.size;
}

abbrev pub decreases-loop-entries : goal.decreases-loop-entries
decreases-loop-entries l = l.size - vec_len l.entries
