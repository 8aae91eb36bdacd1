use Rattle.mls_wire.specs.ExactReads.{list_fits}
use Rattle.mls_wire.proofs.decode.read_list.Goals as goal

pub returns-clause-fits : goal.returns-clause-fits
returns-clause-fits g c = list_fits g.T.Decode.encoding g.T.Decode.reading g.met.T.Decode.exact g.met.T.Decode.long (λ v. v.items) _ _ c.list_of.result c.list_of.ensures
