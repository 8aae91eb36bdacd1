use Rattle.std.proofs.Common.{◌∙◌, ap, arith, sym}
use Rattle.std.specs.Prelude.{option_copied}
use Rattle.mls_check.proofs.Plain.{plain_more, plain_blank}
use Rattle.mls_check.proofs.Leaves.{leaf_at-low}
use Rattle.mls_check.proofs.plain_leaves.are_plain.Goals.{in-Some+else-not-is_plain, in_default}
use Rattle.mls_check.proofs.plain_leaves.are_plain.Goals as goal

pub loop-index-init : goal.loop-index-init
loop-index-init c = λ j x low e. absurd (omega (arith, low))

pub loop-index-preserved : goal.loop-index-preserved
loop-index-preserved c =
    let t = c.args.tree.now.tree in
    elim c.match-leaf.branch [
      | in-Some+else-not-is_plain w ↦
          plain_more t c.loop-index.index w.in-Some.leaf.now c.loop-index.invariant (sym c.leaf.ensures ∙ ap option_copied w.in-Some.is) (w.is_plain.ensures.0 w.if-not-is_plain.false)
      | in_default w ↦ plain_blank t c.loop-index.index c.loop-index.invariant (sym c.leaf.ensures ∙ ap option_copied w.in_default.is)
    ]

pub returns : goal.returns
returns c = λ e. λ j x set.
    c.loop-index.invariant j x (omega (arith, leaf_at-low 0 c.args.tree.now.tree j x set, c.leaf_count-index-end.ensures, c.loop-index-test.false)) set
