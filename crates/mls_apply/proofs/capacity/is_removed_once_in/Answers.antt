use Rattle.std.proofs.Common.{◌∙◌, ◌+◌, ◌∷◌, List, Bool, ap, sym, drop, set, length, replicate, true, false, arith, length-set}
use Rattle.std.specs.Prelude.{◌&&◌}
use Rattle.std.proofs.lemmas.List.{drop_more, length-replicate}
use Rattle.mls_apply.specs.declared.list_item.ListItem.{ListItem}
use Rattle.mls_apply.specs.ListRules.{maps_once}
use Rattle.mls_apply.specs.TargetLeaves.{removed_by, removed_in}
use Rattle.mls_apply.proofs.Concerned.{are_apart, once-start, once-none, once-new}
use Rattle.mls_apply.proofs.LackingRoom.{flag, flag-clear, flag-set, number_low}
use Rattle.mls_apply.proofs.capacity.is_removed_once_in.Goals.{in-Some+else-removed-number, in_default}
use Rattle.mls_apply.proofs.capacity.is_removed_once_in.Goals as goal

pub loop-item-init : goal.loop-item-init
loop-item-init c = record {
  long = length-replicate 65536 false;
  known = once-start (removed_in c.args.first) (flag (replicate 65536 false)) (flag-clear 65536) c.args.items.now;
}

pub loop-item-preserved : goal.loop-item-preserved
loop-item-preserved c =
    let f = removed_in c.args.first in
    let items = c.args.items.now in
    let x = c.item-item.result in
    let rest = drop (c.loop-item.item-index + 1) items in
    let flags = c.loop-item.removed in
    let mapped = λ (fs : List Bool) (xs : List ListItem). are_apart f (flag fs) xs && maps_once f xs in
    let known = c.loop-item.invariant.known ∙ ap (mapped flags) (drop_more items c.loop-item.item-index x c.loop-item-test.true ∙ ap (λ y. y ∷ rest) (sym c.item-item.is)) in
    elim c.match-removed_in.branch [
      | in-Some+else-removed-number w ↦
          (let k = w.in-Some.number in
          let is = sym w.in-Some.ensures in
          let inside = number_low c.args.first (removed_by x) k is in
          record {
            long = ap length w.removed-is ∙ length-set flags k true ∙ c.loop-item.invariant.long;
            known =
                once-new f (maps_once f items) (flag flags) x rest known (flag (set flags k true)) k is w.if-removed-number.false
                (flag-set flags k (omega (arith, inside, c.loop-item.invariant.long)))
                ∙ ap (λ fs. mapped fs rest) (sym w.removed-is);
          })
      | in_default w ↦
          record {
            long = ap length w.removed-is ∙ c.loop-item.invariant.long;
            known =
                once-none f (maps_once f items) (flag flags) x rest known (sym w.in_default.ensures)
                ∙ ap (λ fs. mapped fs rest) (sym w.removed-is);
          }
    ]
