use Rattle.std.proofs.Common.{◌≡◌, ◌+◌, ◌*◌, ◌∙◌, arith, length}
use Rattle.std.proofs.lemmas.List.{length-take}
use Rattle.mls_curve.specs.Curves.{coordinate_length}
use Rattle.mls_curve.proofs.CurveLemmas.{coordinate_fits}
use Rattle.mls_curve.proofs.PointLemmas.{no_point_by_form, no_point_by_length, point_by_coordinates}
use Rattle.mls_curve.proofs.point.is_point_of.Goals as goal
use Rattle.mls_curve.proofs.point.is_point_of.Goals.{then-point-coordinate_len-via-then-point-coordinate_len, then-point-coordinate_len-via-else-point-coordinate_len+then-point-ne4}

pub returns-then-point-coordinate_len : goal.returns-then-point-coordinate_len
returns-then-point-coordinate_len c =
    elim c.then-point-coordinate_len.branch [
      | then-point-coordinate_len-via-then-point-coordinate_len w ↦
          no_point_by_length c.args.curve c.args.point.now (rw c.coordinate_len-coordinate_len.ensures.length at w.if-point-coordinate_len.true)
      | then-point-coordinate_len-via-else-point-coordinate_len+then-point-ne4 w ↦
          no_point_by_form c.args.curve c.args.point.now w.if-point-ne4.true
    ]

pub from_bytes-x-requires-clause-bytes : goal.from_bytes-x-requires-clause-bytes
from_bytes-x-requires-clause-bytes c =
    rw length-take (omega (arith, coordinate_fits c.args.curve, c.coordinate_len-coordinate_len.ensures.length, c.limb_count-len.ensures.count))

pub from_bytes-y-requires-clause-bytes : goal.from_bytes-y-requires-clause-bytes
from_bytes-y-requires-clause-bytes c =
    rw length-take (omega (arith, coordinate_fits c.args.curve, c.coordinate_len-coordinate_len.ensures.length, c.limb_count-len.ensures.count, c.if-point-coordinate_len.false))

pub returns : goal.returns
returns c =
    let width = c.coordinate_len-coordinate_len.ensures.length in
    let count = c.limb_count-len.ensures.count in
    let long : length c.args.point.now ≡ 1 + 2 * coordinate_length c.args.curve = rw width at c.if-point-coordinate_len.false in
    c.is_point.ensures
    ∙ rw (← count, c.from_bytes-x.ensures, c.from_bytes-y.ensures, width) (point_by_coordinates c.args.curve c.args.point.now long c.if-point-ne4.false)
