use Rattle.std.proofs.Common.{◌≡◌, ◌++◌, ◌+◌, ◌-◌, ◌≤◌, replicate, vec_len, vec_capacity}
use Rattle.mls_tree.specs.SubtreeCounts.{zero_count}
use Rattle.mls_tree.proofs.cached_counts.push_zeros.Given as goal

abbrev pub invariant-loop : goal.invariant-loop
invariant-loop l = (l.list.items ≡ l.fn.list.items ++ replicate l.counter zero_count) × (vec_len l.list + (l.count - l.counter) ≤ vec_capacity l.list)
