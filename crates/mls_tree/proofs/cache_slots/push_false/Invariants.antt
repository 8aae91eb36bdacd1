use Rattle.std.proofs.Common.{◌≡◌, ◌++◌, ◌+◌, ◌-◌, ◌≤◌, false, replicate, vec_len, vec_capacity}
use Rattle.mls_tree.proofs.cache_slots.push_false.Given as goal

abbrev pub invariant-loop : goal.invariant-loop
invariant-loop l = (l.filled.items ≡ l.fn.filled.items ++ replicate l.counter false) × (vec_len l.filled + (l.count - l.counter) ≤ vec_capacity l.filled)
