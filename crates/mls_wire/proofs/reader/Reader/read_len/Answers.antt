use Rattle.mls_wire.specs.ExactReads.{Reads-exact}
use Rattle.mls_wire.specs.LengthsExact.{length_exact}
use Rattle.mls_wire.proofs.reader.Reader.read_len.Goals as goal

pub returns : goal.returns
returns c = Reads-exact _ _ length_exact _ _ c.next_len.result c.next_len.ensures
