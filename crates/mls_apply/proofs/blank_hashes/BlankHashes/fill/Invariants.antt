use Rattle.std.proofs.Common.{◌≡◌}
use Rattle.mls_apply.proofs.blank_hashes.BlankHashes.fill.Given as goal

abbrev pub invariant-loop-node_index : goal.invariant-loop-node_index
invariant-loop-node_index l = l.tree.tree ≡ l.initial.tree.tree
