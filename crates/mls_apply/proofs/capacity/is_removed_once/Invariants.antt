use Rattle.std.proofs.Common.{◌≡◌, ℕ, ◌*◌, ◌<◌, true}
use Rattle.mls_apply.specs.ListRules.{maps_once}
use Rattle.mls_apply.specs.TargetLeaves.{removed_in}
use Rattle.mls_apply.proofs.capacity.is_removed_once.Given as goal

abbrev pub invariant-loop-window : goal.invariant-loop-window
invariant-loop-window l = (w : ℕ) → w < l.window → maps_once (removed_in (w * 65536)) l.items ≡ true
