use Rattle.std.proofs.Common.{◌%◌, ◌≢◌, refl, arith}
use Rattle.std.specs.Int.{w32}
use Rattle.mls_wire.specs.IntegersExact.{items_width, wide32, is_odd}
use Rattle.mls_wire.proofs.integers.U32Decode.is_uneven.Goals as goal

pub returns-clause-uneven : goal.returns-clause-uneven
returns-clause-uneven c = λ t xs s e l.
    let len = items_width w32 wide32 4 refl xs s e in
    let odd : c.args.len % 4 ≢ 0 = is_odd _ t in
    odd (omega (arith, len, l))
