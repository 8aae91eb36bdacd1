use Rattle.std.specs.Int.{w64}
use Rattle.mls_wire.specs.ExactReads.{Reads-exact}
use Rattle.mls_wire.specs.IntegersExact.{number_exact, wide64}
use Rattle.mls_wire.proofs.reader.Reader.read_u64.Goals as goal

pub returns : goal.returns
returns c = Reads-exact _ _ (number_exact w64 wide64) _ _ c.next_u64.result c.next_u64.ensures
