use Rattle.std.proofs.Common.{◌∙◌, ◌+◌, ◌∷◌, BTreeSet, List, ℕ, ap, sym, drop}
use Rattle.std.specs.Prelude.{◌&&◌, Bool}
use Rattle.std.specs.Ordering.{nat_cmp}
use Rattle.std.specs.BTreeSet.{contains}
use Rattle.std.proofs.lemmas.List.{drop_more}
use Rattle.mls_apply.specs.declared.list_item.ListItem.{ListItem}
use Rattle.mls_apply.specs.ListRules.{item_target, maps_once, have_distinct_targets}
use Rattle.mls_apply.proofs.Concerned.{are_apart, once-start, once-none, once-met, once-new, once-all, set-none, set-more, unmet, met}
use Rattle.mls_apply.proofs.list_rules.have_distinct_targets.Goals.{in-Some+in_ok-insert+else-not-branch, in_default}
use Rattle.mls_apply.proofs.list_rules.have_distinct_targets.Goals as goal

-- the list is as its rest and the set say
abbrev mapped : BTreeSet ℕ → List ListItem → Bool
mapped set xs = are_apart item_target (contains nat_cmp set) xs && maps_once item_target xs

pub loop-item-init : goal.loop-item-init
loop-item-init c = once-start item_target (contains nat_cmp c.new-concerned.result) (set-none c.new-concerned.result c.new-concerned.ensures.empty) c.args.items.now

pub loop-item-preserved : goal.loop-item-preserved
loop-item-preserved c =
    let items = c.args.items.now in
    let x = c.item-item.result in
    let rest = drop (c.loop-item.item-index + 1) items in
    let set = c.loop-item.concerned in
    let known = c.loop-item.invariant ∙ ap (mapped set) (drop_more items c.loop-item.item-index x c.loop-item-test.true ∙ ap (λ y. y ∷ rest) (sym c.item-item.is)) in
    elim c.match-target_leaf.branch [
      | in-Some+in_ok-insert+else-not-branch w ↦
          once-new item_target (maps_once item_target items) (contains nat_cmp set) x rest known (contains nat_cmp w.insert.new.self) w.in-Some.leaf (sym w.in-Some.ensures)
          (unmet _ _ w.in_ok-insert.ensures.added w.if-not-branch.false)
          (set-more (contains nat_cmp set) (contains nat_cmp w.insert.new.self) w.in-Some.leaf w.in_ok-insert.ensures.updates.0)
          ∙ ap (λ s. mapped s rest) (sym w.concerned-is)
      | in_default w ↦
          once-none item_target (maps_once item_target items) (contains nat_cmp set) x rest known (sym w.in_default.ensures)
          ∙ ap (λ s. mapped s rest) (sym w.concerned-is)
    ]

pub returns-then-not-branch : goal.returns-then-not-branch
unfolding have_distinct_targets
returns-then-not-branch c =
    let items = c.args.items.now in
    let x = c.item-item.result in
    let rest = drop (c.loop-item.item-index + 1) items in
    let set = c.loop-item.concerned in
    let known = c.loop-item.invariant ∙ ap (mapped set) (drop_more items c.loop-item.item-index x c.loop-item-test.true ∙ ap (λ y. y ∷ rest) (sym c.item-item.is)) in
    sym
    (once-met item_target (maps_once item_target items) (contains nat_cmp set) x rest known c.in-Some.leaf (sym c.in-Some.ensures)
    (met _ _ c.in_ok-insert.ensures.added c.if-not-branch.true))

pub returns : goal.returns
unfolding have_distinct_targets
returns c = once-all item_target c.args.items.now c.loop-item.item-index (contains nat_cmp c.loop-item.concerned) c.loop-item.invariant c.loop-item-test.false
