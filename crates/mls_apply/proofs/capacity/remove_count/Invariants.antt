use Rattle.std.proofs.Common.{◌≡◌, ◌+◌, ◌≤◌, drop, length}
use Rattle.mls_apply.specs.TargetLeaves.{removed_leaves}
use Rattle.mls_apply.proofs.capacity.remove_count.Given as goal

abbrev pub invariant-loop-item : goal.invariant-loop-item
invariant-loop-item l = record {
  small : l.count ≤ l.item-index;
  counted : l.count + length (removed_leaves (drop l.item-index l.items)) ≡ length (removed_leaves l.items);
}
