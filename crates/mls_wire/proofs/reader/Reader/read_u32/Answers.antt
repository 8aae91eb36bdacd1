use Rattle.std.specs.Int.{w32}
use Rattle.mls_wire.specs.ExactReads.{Reads-exact}
use Rattle.mls_wire.specs.IntegersExact.{number_exact, wide32}
use Rattle.mls_wire.proofs.reader.Reader.read_u32.Goals as goal

pub returns : goal.returns
returns c = Reads-exact _ _ (number_exact w32 wide32) _ _ c.next_u32.result c.next_u32.ensures
