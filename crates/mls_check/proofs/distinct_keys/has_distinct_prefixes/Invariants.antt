use Rattle.mls_check.specs.DistinctKeys.{encryption_key_at}
use Rattle.mls_check.proofs.Differing.{Begun}
use Rattle.mls_check.proofs.distinct_keys.has_distinct_prefixes.Given as goal

abbrev pub invariant-loop-node_index : goal.invariant-loop-node_index
invariant-loop-node_index l = Begun (encryption_key_at l.tree.tree) l.node_index l.prefixes.items
