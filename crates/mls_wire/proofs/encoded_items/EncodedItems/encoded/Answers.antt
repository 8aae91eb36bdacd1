use Rattle.mls_wire.specs.StoredItems.{stored_vector}
use Rattle.mls_wire.proofs.encoded_items.EncodedItems.encoded.Goals as goal

pub returns-clause-encoded : goal.returns-clause-encoded
returns-clause-encoded g c =
    rw (← c.self.view_is, c.as_slice.ensures.bytes) (stored_vector g.T.Decode.encoding g.T.Decode.reading g.met.T.Decode.exact g.met.T.Decode.long c.self.inside.body c.self.invariant)
