use Rattle.std.proofs.Common.{◌≡◌, map, drop}
use Rattle.mls_apply.specs.PathRules.{have_counts}
use Rattle.mls_apply.specs.PathParents.{away_resolution}
use Rattle.mls_apply.proofs.path_rules.have_counts.Given as goal

abbrev pub invariant-loop-index : goal.invariant-loop-index
invariant-loop-index l =
    have_counts l.fn.added (map (away_resolution l.tree.tree l.above.leaf) l.above.node_indices.now) l.nodes
    ≡ have_counts l.fn.added (map (away_resolution l.tree.tree l.above.leaf) (drop l.index l.above.node_indices.now)) (drop l.index l.nodes)
