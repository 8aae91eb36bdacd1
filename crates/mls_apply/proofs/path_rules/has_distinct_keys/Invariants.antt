use Rattle.std.proofs.Common.{map, drop}
use Rattle.mls_apply.proofs.PathKeys.{HoldsKeys}
use Rattle.mls_apply.proofs.path_rules.has_distinct_keys.Given as goal

abbrev pub invariant-loop-index : goal.invariant-loop-index
invariant-loop-index l = HoldsKeys (map (λ n. n.encryption_key) (drop l.index l.nodes)) l.keys
