use Rattle.std.proofs.Common.{◌∙◌, sym, arith, refl}
use Rattle.mls_tree.proofs.Walking.{leaves_at-split, parent-found, resolution-has_left, resolution-has_right, is_some-copied}
use Rattle.mls_tree.proofs.resolution.+has_resolution.Goals as goal

pub returns-then-has_resolution : goal.returns-then-has_resolution
returns-then-has_resolution t c leaves =
    (λ _. resolution-has_left c.args.nodes.now c.args.first c.leaves_of.result c.args.level c.if-level-eq0.false c.leaves_of.ensures.value leaves ((c.if-has_resolution.ensures leaves).0 refl), λ _. refl)

pub returns : goal.returns
returns t c leaves =
    resolution-has_right c.args.nodes.now c.args.first c.leaves_of.result c.args.level c.if-level-eq0.false c.leaves_of.ensures.value leaves c.has_resolution-2.result _
    (parent-found c.args.nodes.now _ c.index-nodes-middle.result
    (omega (arith, leaves_at-split _ _ c.if-level-eq0.false c.leaves_of.ensures.value, c.requires.long, c.leaves_of.ensures.positive))
    c.index-nodes-middle.is ∙ sym c.as_parent.ensures)
    (is_some-copied c.as_parent.result ∙ sym c.if-is_some.ensures)
    ((c.if-has_resolution.ensures leaves).1)
    (c.has_resolution-2.ensures leaves)
