use Rattle.std.proofs.Common.{arith}
use Rattle.std.specs.Int.{w8}
use Rattle.mls_wire.specs.IntegersExact.{wide8}
use Rattle.mls_wire.specs.EncodedSizes.{size_number}
use Rattle.mls_wire.proofs.integers.U8Encode.size.Goals as goal

pub returns : goal.returns
returns c = size_number w8 wide8 c.args.self.now (omega arith) (omega arith)
