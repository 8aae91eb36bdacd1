use Rattle.mls_wire.specs.ExactReads.{Reads-exact}
use Rattle.mls_wire.specs.OptionalsExact.{flag_exact}
use Rattle.mls_wire.proofs.reader.Reader.read_optional.Goals as goal

pub returns : goal.returns
returns c = Reads-exact _ _ flag_exact _ _ c.next_optional.result c.next_optional.ensures
