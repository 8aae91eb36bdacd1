use Rattle.std.specs.Int.{w16}
use Rattle.mls_wire.specs.ExactReads.{Reads-exact}
use Rattle.mls_wire.specs.IntegersExact.{number_exact, wide16}
use Rattle.mls_wire.proofs.reader.Reader.read_u16.Goals as goal

pub returns : goal.returns
returns c = Reads-exact _ _ (number_exact w16 wide16) _ _ c.next_u16.result c.next_u16.ensures
