use Rattle.std.proofs.Common.{◌≡◌, drop}
use Rattle.std.specs.Prelude.{◌&&◌}
use Rattle.std.specs.Ordering.{nat_cmp}
use Rattle.std.specs.BTreeSet.{contains}
use Rattle.mls_apply.specs.ListRules.{item_target, maps_once}
use Rattle.mls_apply.proofs.Concerned.{are_apart}
use Rattle.mls_apply.proofs.list_rules.have_distinct_targets.Given as goal

abbrev pub invariant-loop-item : goal.invariant-loop-item
invariant-loop-item l =
    maps_once item_target l.items
    ≡ (are_apart item_target (contains nat_cmp l.concerned) (drop l.item-index l.items) && maps_once item_target (drop l.item-index l.items))
