use Rattle.std.proofs.Common.{◌%◌, ◌≢◌, refl, arith}
use Rattle.std.specs.Int.{w16}
use Rattle.mls_wire.specs.IntegersExact.{items_width, wide16, is_odd}
use Rattle.mls_wire.proofs.integers.U16Decode.is_uneven.Goals as goal

pub returns-clause-uneven : goal.returns-clause-uneven
returns-clause-uneven c = λ t xs s e l.
    let len = items_width w16 wide16 2 refl xs s e in
    let odd : c.args.len % 2 ≢ 0 = is_odd _ t in
    odd (omega (arith, len, l))
