use Rattle.std.proofs.Common.{◌≡◌, map, drop}
use Rattle.std.specs.List.{list_any}
use Rattle.mls_check.specs.DistinctKeys.{has_key, tree_keys}
use Rattle.mls_apply.specs.PathRules.{path_keys}
use Rattle.mls_apply.proofs.path_rules.uses_keys.Given as goal

abbrev pub invariant-loop-node : goal.invariant-loop-node
invariant-loop-node l =
    list_any (has_key (tree_keys l.tree.tree)) (path_keys l.path)
    ≡ list_any (has_key (tree_keys l.tree.tree)) (map (λ n. n.encryption_key) (drop l.node-index l.nodes))
