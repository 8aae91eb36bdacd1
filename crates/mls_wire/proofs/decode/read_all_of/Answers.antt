use Rattle.mls_wire.specs.ExactReads.{DecodesAll-exact}
use Rattle.mls_wire.proofs.decode.read_all_of.Goals as goal

pub returns : goal.returns
returns g c = DecodesAll-exact g.T.Decode.encoding g.T.Decode.reading g.met.T.Decode.exact _ c.whole.result c.whole.ensures
