use Rattle.std.proofs.Common.{ap, ◌∙◌, sym, arith}
use Rattle.mls_tree.specs.TreeOperations.{is_overfilled}
use Rattle.mls_tree.proofs.Walking.{leaves_at-split, parent-found}
use Rattle.mls_tree.proofs.Lists.{overfilled-here, overfilled-near, overfilled-far}
use Rattle.mls_tree.proofs.unmerged_leaves.+is_overfilled_above.Goals as goal

pub returns-then-is_overfilled : goal.returns-then-is_overfilled
returns-then-is_overfilled t c =
    let at = parent-found c.args.nodes.now _ c.index-nodes-middle.result
    (omega (arith, leaves_at-split _ _ c.if-level-eq0.false c.leaves_of.ensures.value, c.requires.long, c.leaves_of.ensures.positive))
    c.index-nodes-middle.is ∙ sym c.as_parent.ensures in
    sym (overfilled-here c.args.nodes.now c.args.first c.leaves_of.result c.args.level c.if-level-eq0.false c.leaves_of.ensures.value c.args.leaf
    (ap (λ p. is_overfilled c.args.leaf p) at ∙ sym c.is_overfilled.ensures ∙ c.if-is_overfilled.true))

pub returns-then-leaf-middle : goal.returns-then-leaf-middle
returns-then-leaf-middle t c =
    let at = parent-found c.args.nodes.now _ c.index-nodes-middle.result
    (omega (arith, leaves_at-split _ _ c.if-level-eq0.false c.leaves_of.ensures.value, c.requires.long, c.leaves_of.ensures.positive))
    c.index-nodes-middle.is ∙ sym c.as_parent.ensures in
    c.is_overfilled_above.ensures
    ∙ overfilled-near c.args.nodes.now c.args.first c.leaves_of.result c.args.level c.if-level-eq0.false c.leaves_of.ensures.value c.args.leaf
    (ap (λ p. is_overfilled c.args.leaf p) at ∙ sym c.is_overfilled.ensures ∙ c.if-is_overfilled.false) c.if-leaf-middle.true

pub returns-else-leaf-middle : goal.returns-else-leaf-middle
returns-else-leaf-middle t c =
    let at = parent-found c.args.nodes.now _ c.index-nodes-middle.result
    (omega (arith, leaves_at-split _ _ c.if-level-eq0.false c.leaves_of.ensures.value, c.requires.long, c.leaves_of.ensures.positive))
    c.index-nodes-middle.is ∙ sym c.as_parent.ensures in
    c.is_overfilled_above-else-leaf-middle.ensures
    ∙ overfilled-far c.args.nodes.now c.args.first c.leaves_of.result c.args.level c.if-level-eq0.false c.leaves_of.ensures.value c.args.leaf
    (ap (λ p. is_overfilled c.args.leaf p) at ∙ sym c.is_overfilled.ensures ∙ c.if-is_overfilled.false) c.if-leaf-middle.false
