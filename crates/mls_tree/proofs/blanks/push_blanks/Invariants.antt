use Rattle.std.proofs.Common.{◌≡◌, ◌≤◌, ◌+◌, ◌-◌, ◌++◌, None, replicate, vec_len, vec_capacity}
use Rattle.mls_tree.proofs.blanks.push_blanks.Given as goal

abbrev pub invariant-loop : goal.invariant-loop
invariant-loop l = (l.nodes.items ≡ l.fn.nodes.items ++ replicate l.counter None) × (vec_len l.nodes + (l.count - l.counter) ≤ vec_capacity l.nodes)
