use Rattle.std.proofs.Common.{arith}
use Rattle.std.specs.Int.{w32}
use Rattle.mls_wire.specs.IntegersExact.{wide32}
use Rattle.mls_wire.specs.EncodedSizes.{size_number}
use Rattle.mls_wire.proofs.integers.U32Encode.size.Goals as goal

pub returns : goal.returns
returns c = size_number w32 wide32 c.args.self.now (omega arith) (omega arith)
