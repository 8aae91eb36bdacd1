use Rattle.std.proofs.Common.{◌≡◌, ◌+◌, ◌≤◌, drop}
use Rattle.mls_tree.specs.HashListsInternal.{false_count}
use Rattle.mls_tree.proofs.cache_slots.count_false.Given as goal

-- how often `false` was found, and how often it is still to come
abbrev pub invariant-loop-is_filled : goal.invariant-loop-is_filled
invariant-loop-is_filled l = (l.count + false_count (drop l.is_filled-index l.filled) ≡ false_count l.filled) × (l.count ≤ l.is_filled-index)
