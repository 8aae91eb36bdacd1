use Rattle.std.proofs.Common.{◌≡◌, ◌++◌}
use Rattle.std.specs.Prelude.{filter, is_some}
use Rattle.std.specs.List.{range_with_len}
use Rattle.mls_tree.specs.Tree.{node_at}
use Rattle.mls_tree.proofs.changed_nodes.push_non_blank.Given as goal

abbrev pub invariant-loop-offset : goal.invariant-loop-offset
invariant-loop-offset l = l.out.items ≡ l.fn.out.items ++ filter (λ p. is_some (node_at l.tree.tree p)) (range_with_len l.first l.offset)
