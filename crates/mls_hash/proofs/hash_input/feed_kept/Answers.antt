use Rattle.std.proofs.Common.{sym, ◌∙◌}
use Rattle.mls_hash.proofs.Inputs.{nothing_held, held_less, held_more, held_all}
use Rattle.mls_hash.proofs.hash_input.feed_kept.Goals as goal
use Rattle.mls_hash.proofs.hash_input.feed_kept.Goals.{then-not-contains, else-not-contains}

pub loop-number-init : goal.loop-number-init
loop-number-init c = nothing_held c.args.left_out.now c.args.hasher.now

pub loop-number-preserved : goal.loop-number-preserved
loop-number-preserved c =
    elim c.if-not-contains.branch [
      | then-not-contains w ↦
          held_more c.args.left_out.now c.args.indices.now c.loop-number.number-index c.loop-number-test.true c.args.hasher.now c.loop-number.hasher w.feed_number.new.hasher c.if-not-contains.hasher
          (sym c.contains.ensures ∙ w.if-not-contains.true) c.loop-number.invariant w.feed_number.ensures w.hasher-is
      | else-not-contains w ↦
          held_less c.args.left_out.now c.args.indices.now c.loop-number.number-index c.loop-number-test.true c.args.hasher.now c.loop-number.hasher c.if-not-contains.hasher
          (sym c.contains.ensures ∙ w.if-not-contains.false) c.loop-number.invariant w.hasher-is
    ]

pub returns : goal.returns
returns c = held_all c.args.left_out.now c.args.indices.now c.loop-number.number-index c.args.hasher.now c.loop-number.hasher c.loop-number-test.false c.loop-number.invariant
