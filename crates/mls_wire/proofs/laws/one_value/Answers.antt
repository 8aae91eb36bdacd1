use Rattle.mls_wire.specs.ExactTheorems as laws
use Rattle.mls_wire.proofs.laws.one_value.Goals as goal

pub returns-clause-once : goal.returns-clause-once
returns-clause-once g c = laws.one_value g.T.Decode.encoding g.T.Decode.reading g.met.T.Decode.exact

pub returns-clause-whole : goal.returns-clause-whole
returns-clause-whole g c = laws.no_prefix g.T.Decode.encoding g.T.Decode.reading g.met.T.Decode.exact

pub returns-clause-reading : goal.returns-clause-reading
returns-clause-reading g c = laws.one_reading g.T.Decode.encoding g.T.Decode.reading g.met.T.Decode.exact
