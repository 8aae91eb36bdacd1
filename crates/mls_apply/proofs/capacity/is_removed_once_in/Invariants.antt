use Rattle.std.proofs.Common.{◌≡◌, drop, length}
use Rattle.std.specs.Prelude.{◌&&◌}
use Rattle.mls_apply.specs.ListRules.{maps_once}
use Rattle.mls_apply.specs.TargetLeaves.{removed_in}
use Rattle.mls_apply.proofs.Concerned.{are_apart}
use Rattle.mls_apply.proofs.LackingRoom.{flag}
use Rattle.mls_apply.proofs.capacity.is_removed_once_in.Given as goal

abbrev pub invariant-loop-item : goal.invariant-loop-item
invariant-loop-item l = record {
  long : length l.removed ≡ 65536;
  known :
      maps_once (removed_in l.first) l.items
      ≡ (are_apart (removed_in l.first) (flag l.removed) (drop l.item-index l.items) && maps_once (removed_in l.first) (drop l.item-index l.items));
}
