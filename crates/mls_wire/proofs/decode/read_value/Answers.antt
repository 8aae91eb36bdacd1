use Rattle.mls_wire.specs.ExactReads.{Decodes-exact}
use Rattle.mls_wire.proofs.decode.read_value.Goals as goal

pub returns : goal.returns
returns g c = Decodes-exact g.T.Decode.encoding g.T.Decode.reading g.met.T.Decode.exact _ _ c.read.result c.read.ensures
