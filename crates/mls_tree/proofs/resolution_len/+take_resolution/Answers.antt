use Rattle.std.proofs.Common.{◌∙◌, ap, sym, arith, refl}
use Rattle.std.specs.Prelude.{option_copied}
use Rattle.mls_tree.proofs.CountsRead.{if_any-near, if_any-far}
use Rattle.mls_tree.proofs.Walking.{leaves_at-split, parent-found}
use Rattle.mls_tree.proofs.TakingOff.{taken-blank, taken-blank_stopped, taken-set, taken-set_stopped, taken-empty}
use Rattle.mls_tree.proofs.resolution_len.+take_resolution.Goals as goal

pub returns-then-is_counted_empty : goal.returns-then-is_counted_empty
returns-then-is_counted_empty t c = taken-empty c.args.without.now c.args.left _ (c.if-is_counted_empty.ensures refl c.args.leaves)

pub returns-in_err-left-in-Some-as_parent : goal.returns-in_err-left-in-Some-as_parent
returns-in_err-left-in-Some-as_parent t c =
    c.from_residual.ensures
    ∙ taken-set_stopped c.args.nodes.now c.args.first c.leaves_of.result c.args.level c.if-level-eq0.false c.leaves_of.ensures.value c.args.leaves c.args.without.now c.args.left
    c.in-Some-as_parent.parent.now
    (parent-found c.args.nodes.now _ c.index-nodes-middle.result
    (omega (arith, leaves_at-split _ _ c.if-level-eq0.false c.leaves_of.ensures.value, c.requires.long, c.leaves_of.ensures.positive))
    c.index-nodes-middle.is ∙ sym c.as_parent.ensures ∙ ap (λ o. option_copied o) c.in-Some-as_parent.is)
    (sym c.in_err-left-in-Some-as_parent.was ∙ c.take_one-in-Some-as_parent.ensures)

pub returns-in_ok-left-in-Some-as_parent : goal.returns-in_ok-left-in-Some-as_parent
returns-in_ok-left-in-Some-as_parent t c =
    taken-set c.args.nodes.now c.args.first c.leaves_of.result c.args.level c.if-level-eq0.false c.leaves_of.ensures.value c.args.leaves c.args.without.now c.args.left
    c.in-Some-as_parent.parent.now
    (parent-found c.args.nodes.now _ c.index-nodes-middle.result
    (omega (arith, leaves_at-split _ _ c.if-level-eq0.false c.leaves_of.ensures.value, c.requires.long, c.leaves_of.ensures.positive))
    c.index-nodes-middle.is ∙ sym c.as_parent.ensures ∙ ap (λ o. option_copied o) c.in-Some-as_parent.is)
    _ c.as_slice.ensures.items c.in_ok-left-in-Some-as_parent.left _
    (sym c.in_ok-left-in-Some-as_parent.was ∙ c.take_one-in-Some-as_parent.ensures) c.take_unmerged.ensures

pub returns-in_err-left-in-None-as_parent : goal.returns-in_err-left-in-None-as_parent
returns-in_err-left-in-None-as_parent t c =
    c.from_residual-in_err-left-in-None-as_parent.ensures
    ∙ taken-blank_stopped c.args.nodes.now c.args.first c.leaves_of.result c.args.level c.if-level-eq0.false c.leaves_of.ensures.value c.args.leaves c.args.without.now c.args.left
    (parent-found c.args.nodes.now _ c.index-nodes-middle.result
    (omega (arith, leaves_at-split _ _ c.if-level-eq0.false c.leaves_of.ensures.value, c.requires.long, c.leaves_of.ensures.positive))
    c.index-nodes-middle.is ∙ sym c.as_parent.ensures ∙ ap (λ o. option_copied o) c.in-None-as_parent.is)
    (sym c.in_err-left-in-None-as_parent.was ∙ c.take_resolution.ensures)

pub take_resolution-requires : goal.take_resolution-requires
take_resolution-requires t c =
    let s = leaves_at-split _ _ c.if-level-eq0.false c.leaves_of.ensures.value in
    (omega (arith, c.decreases), (omega arith, (omega arith, (omega arith, (omega arith, if_any-near c.args.nodes.now c.args.first c.leaves_of.result c.args.level c.if-level-eq0.false c.leaves_of.ensures.value (option_copied c.args.counts) c.requires.counts)))))

pub take_resolution-requires-in-None-as_parent : goal.take_resolution-requires-in-None-as_parent
take_resolution-requires-in-None-as_parent t c =
    let s = leaves_at-split _ _ c.if-level-eq0.false c.leaves_of.ensures.value in
    (omega (arith, c.decreases), (omega arith, (omega arith, (omega arith, (omega arith, if_any-far c.args.nodes.now c.args.first c.leaves_of.result c.args.level c.if-level-eq0.false c.leaves_of.ensures.value (option_copied c.args.counts) c.requires.counts)))))

pub returns-in_ok-left-in-None-as_parent : goal.returns-in_ok-left-in-None-as_parent
returns-in_ok-left-in-None-as_parent t c =
    taken-blank c.args.nodes.now c.args.first c.leaves_of.result c.args.level c.if-level-eq0.false c.leaves_of.ensures.value c.args.leaves c.args.without.now c.args.left
    (parent-found c.args.nodes.now _ c.index-nodes-middle.result
    (omega (arith, leaves_at-split _ _ c.if-level-eq0.false c.leaves_of.ensures.value, c.requires.long, c.leaves_of.ensures.positive))
    c.index-nodes-middle.is ∙ sym c.as_parent.ensures ∙ ap (λ o. option_copied o) c.in-None-as_parent.is)
    c.in_ok-left-in-None-as_parent.left _
    (sym c.in_ok-left-in-None-as_parent.was ∙ c.take_resolution.ensures) c.take_resolution-in-None-as_parent.ensures
