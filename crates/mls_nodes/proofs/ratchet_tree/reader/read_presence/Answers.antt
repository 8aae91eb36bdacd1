use Rattle.mls_wire.specs.Encoding.{flag}
use Rattle.mls_wire.specs.ParsingInternal.{flag_at}
use Rattle.mls_wire.specs.OptionalsExact.{flag_exact}
use Rattle.mls_wire.specs.ExactReads.{Gives-reads}
use Rattle.mls_nodes.proofs.ratchet_tree.reader.read_presence.Goals as goal

pub returns : goal.returns
returns c = Gives-reads flag flag_at flag_exact _ _ c.read_optional.result c.read_optional.ensures
