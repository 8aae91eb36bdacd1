use Rattle.std.proofs.Common.{◌≡◌, ◌+◌, ◌≤◌, drop, length}
use Rattle.mls_apply.specs.AppliedList.{new_members}
use Rattle.mls_apply.proofs.capacity.add_count.Given as goal

abbrev pub invariant-loop-item : goal.invariant-loop-item
invariant-loop-item l = record {
  small : l.count ≤ l.item-index;
  counted : l.count + length (new_members (drop l.item-index l.items)) ≡ length (new_members l.items);
}
