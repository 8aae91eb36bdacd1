use Rattle.std.specs.Int.{w8}
use Rattle.mls_wire.specs.ExactReads.{Reads-exact}
use Rattle.mls_wire.specs.IntegersExact.{number_exact, wide8}
use Rattle.mls_wire.proofs.reader.Reader.read_u8.Goals as goal

pub returns : goal.returns
returns c = Reads-exact _ _ (number_exact w8 wide8) _ _ c.next_u8.result c.next_u8.ensures
