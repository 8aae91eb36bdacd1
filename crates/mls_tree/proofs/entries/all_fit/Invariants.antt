use Rattle.std.proofs.Common.{ℕ, ◌<◌}
use Rattle.std.specs.Prelude.{slice_get}
use Rattle.mls_tree.specs.NodeArray.{FitsNodeIndex}
use Rattle.mls_tree.proofs.entries.all_fit.Given as goal

abbrev pub invariant-loop-node_index : goal.invariant-loop-node_index
invariant-loop-node_index l = (p : ℕ) → p < l.node_index → FitsNodeIndex p (slice_get l.nodes p)
