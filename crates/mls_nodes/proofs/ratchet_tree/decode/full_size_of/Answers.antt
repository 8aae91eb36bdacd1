use Rattle.std.proofs.Common.{arith, refl, sym, ◌∙◌}
use Rattle.mls_nodes.specs.RatchetTreeEncoding.{full_size}
use Rattle.mls_nodes.specs.FilledTree.{full_from-stops}
use Rattle.mls_nodes.proofs.Entries.{one_step}
use Rattle.mls_nodes.proofs.ratchet_tree.decode.full_size_of.Goals as goal

pub loop-size-init : goal.loop-size-init
unfolding full_size
loop-size-init c = record { steps = (c.args.count, omega arith, refl); small = omega arith; some = omega arith }

pub loop-size-preserved : goal.loop-size-preserved
loop-size-preserved c = record { steps = one_step c.args.count c.loop-size.size c.loop-size-test.true c.loop-size.invariant.some c.loop-size.invariant.steps; small = omega arith; some = omega arith }

pub returns : goal.returns
returns c = sym (full_from-stops c.loop-size.invariant.steps.0 c.loop-size.size c.args.count c.loop-size-test.false) ∙ c.loop-size.invariant.steps.2
