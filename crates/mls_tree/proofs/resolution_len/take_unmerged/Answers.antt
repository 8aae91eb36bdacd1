use Rattle.std.proofs.Common.{◌∙◌, ◌+◌, ap, sym, arith, drop, refl}
use Rattle.mls_tree.specs.Paths.{unmerged_node_indices, count_not_in}
use Rattle.mls_tree.specs.Subtraction.{taken_off}
use Rattle.mls_tree.proofs.TakingOff.{unmerged-there, taken-stopped}
use Rattle.mls_tree.proofs.resolution_len.take_unmerged.Goals as goal

pub returns-in_err-left : goal.returns-in_err-left
returns-in_err-left c =
    c.from_residual.ensures
    ∙ taken-stopped c.args.without.now c.loop-leaf.left _ (unmerged_node_indices c.args.leaves (drop (c.loop-leaf.leaf-index + 1) c.args.unmerged.now)) (sym c.in_err-left.was ∙ c.take_one.ensures)
    ∙ ap (λ v. taken_off c.loop-leaf.left (count_not_in c.args.without.now v)) (sym (unmerged-there c.args.without.now c.args.leaves c.args.unmerged.now c.loop-leaf.leaf-index _ (omega arith) refl c.if-leaf-leaves.true))
    ∙ sym c.loop-leaf.invariant
