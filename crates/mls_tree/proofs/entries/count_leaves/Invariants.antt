use Rattle.std.proofs.Common.{◌≡◌, ◌+◌, ◌≤◌, drop, map}
use Rattle.mls_nodes.specs.NodeValues.{entry_value}
use Rattle.mls_tree.specs.Tree.{leaves_among}
use Rattle.mls_tree.proofs.entries.count_leaves.Given as goal

-- the leaves so far, and those still to come
abbrev pub invariant-loop-entry : goal.invariant-loop-entry
invariant-loop-entry l = (l.leaves + leaves_among (map entry_value (drop l.entry-index l.nodes)) ≡ leaves_among (map entry_value l.nodes)) × (l.leaves ≤ l.entry-index)
