use Rattle.std.proofs.Common.{arith}
use Rattle.std.specs.Int.{w16}
use Rattle.mls_wire.specs.IntegersExact.{wide16}
use Rattle.mls_wire.specs.EncodedSizes.{size_number}
use Rattle.mls_wire.proofs.integers.U16Encode.size.Goals as goal

pub returns : goal.returns
returns c = size_number w16 wide16 c.args.self.now (omega arith) (omega arith)
