use Rattle.std.proofs.Common.{◌≡◌, map, take}
use Rattle.mls_apply.proofs.path_merge.node_keys.Given as goal

abbrev pub invariant-loop-node : goal.invariant-loop-node
invariant-loop-node l = l.keys.items ≡ map (λ n. n.encryption_key) (take l.node-index l.nodes)
