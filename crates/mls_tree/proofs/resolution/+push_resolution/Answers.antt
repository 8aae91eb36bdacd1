use Rattle.std.proofs.Common.{◌∙◌, ap, sym, arith}
use Rattle.std.specs.Prelude.{option_copied}
use Rattle.mls_tree.proofs.Walking.{leaves_at-split, parent-found, resolution-pushed_blank, resolution-pushed_set}
use Rattle.mls_tree.proofs.resolution.+push_resolution.Goals as goal

pub returns-in_ok-push_unmerged-in-Some : goal.returns-in_ok-push_unmerged-in-Some
returns-in_ok-push_unmerged-in-Some t c =
    resolution-pushed_set c.args.nodes.now c.args.first c.leaves_of.result c.args.level c.if-level-eq0.false c.leaves_of.ensures.value c.args.leaves _ _ _
    c.in-Some.parent.now _
    (parent-found c.args.nodes.now _ c.index-nodes-middle.result
    (omega (arith, leaves_at-split _ _ c.if-level-eq0.false c.leaves_of.ensures.value, c.requires.long, c.leaves_of.ensures.positive))
    c.index-nodes-middle.is ∙ sym c.as_parent.ensures ∙ ap (λ o. option_copied o) c.in-Some.is)
    c.in_ok-push-in-Some.ensures.items c.as_slice.ensures.items c.in_ok-push_unmerged-in-Some.ensures

pub returns-in_ok-push_resolution-in-None-2 : goal.returns-in_ok-push_resolution-in-None-2
returns-in_ok-push_resolution-in-None-2 t c =
    resolution-pushed_blank c.args.nodes.now c.args.first c.leaves_of.result c.args.level c.if-level-eq0.false c.leaves_of.ensures.value c.args.leaves _ _ _
    (parent-found c.args.nodes.now _ c.index-nodes-middle.result
    (omega (arith, leaves_at-split _ _ c.if-level-eq0.false c.leaves_of.ensures.value, c.requires.long, c.leaves_of.ensures.positive))
    c.index-nodes-middle.is ∙ sym c.as_parent.ensures ∙ ap (λ o. option_copied o) c.in-None.is)
    c.in_ok-push_resolution-in-None.ensures c.in_ok-push_resolution-in-None-2.ensures
