use Rattle.std.proofs.Common.{sym, ◌∙◌, arith}
use Rattle.mls_hash.proofs.Inputs.{count_less, count_more, counted_all}
use Rattle.mls_hash.proofs.hash_input.count_kept.Goals as goal
use Rattle.mls_hash.proofs.hash_input.count_kept.Goals.{then-not-contains, else-not-contains}

pub loop-number-preserved : goal.loop-number-preserved
loop-number-preserved c =
    elim c.if-not-contains.branch [
      | then-not-contains w ↦ record {
        count = count_more c.args.left_out.now c.args.indices.now c.loop-number.number-index c.loop-number-test.true c.loop-number.kept c.if-not-contains.kept (sym c.contains.ensures ∙ w.if-not-contains.true) c.loop-number.invariant.count w.kept-is;
        low = omega arith;
      }
      | else-not-contains w ↦ record {
        count = count_less c.args.left_out.now c.args.indices.now c.loop-number.number-index c.loop-number-test.true c.loop-number.kept c.if-not-contains.kept (sym c.contains.ensures ∙ w.if-not-contains.false) c.loop-number.invariant.count w.kept-is;
        low = omega arith;
      }
    ]

pub returns : goal.returns
returns c = counted_all c.args.left_out.now c.args.indices.now c.loop-number.number-index c.loop-number.kept c.loop-number-test.false c.loop-number.invariant.count
