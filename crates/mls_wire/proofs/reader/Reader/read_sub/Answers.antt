use Rattle.mls_wire.specs.ExactReads.{ReadsBody-exact}
use Rattle.mls_wire.proofs.reader.Reader.read_sub.Goals as goal

pub returns : goal.returns
returns c = ReadsBody-exact _ _ c.next_sub.result c.next_sub.ensures
