use Rattle.std.proofs.Common.{refl, true, false}
use Rattle.mls_signatures.proofs.KeptInPlace.{keeps-yes, keeps-no}
use Rattle.mls_signatures.proofs.duplicates.keep_marked.Goals.{then-marks-at, else-marks-at}
use Rattle.mls_signatures.proofs.duplicates.keep_marked.Goals as goal

pub loop-at-preserved : goal.loop-at-preserved
loop-at-preserved c =
    let xs = c.args.list.now.items in
    let marks = c.args.marks.now in
    let i = c.loop-at.at in
    let k = c.loop-at.kept in
    let ys = c.loop-at.list.items in
    elim c.if-marks-at.branch [
      | then-marks-at w ↦
          rw (w.list-is, w.kept-is, w.swap.ensures.items)
          (keeps-yes xs marks i k ys c.loop-at.invariant c.requires c.loop-at-test.true true w.if-marks-at.true refl)
      | else-marks-at w ↦
          rw (w.list-is, w.kept-is)
          (keeps-no xs marks i k ys c.loop-at.invariant c.requires c.loop-at-test.true false w.if-marks-at.false refl)
    ]
