use Rattle.std.proofs.Common.{arith}
use Rattle.std.specs.Int.{w64}
use Rattle.mls_wire.specs.IntegersExact.{wide64}
use Rattle.mls_wire.specs.EncodedSizes.{size_number}
use Rattle.mls_wire.proofs.integers.U64Encode.size.Goals as goal

pub returns : goal.returns
returns c = size_number w64 wide64 c.args.self.now (omega arith) (omega arith)
