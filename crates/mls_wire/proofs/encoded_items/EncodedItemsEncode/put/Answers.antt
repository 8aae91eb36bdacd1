use Rattle.mls_wire.specs.StoredItems.{stored_vector}
use Rattle.mls_wire.proofs.encoded_items.EncodedItemsEncode.put.Goals as goal

pub returns : goal.returns
returns g c =
    rw (← c.self.view_is, stored_vector g.T.Decode.encoding g.T.Decode.reading g.met.T.Decode.exact g.met.T.Decode.long c.self.inside.body c.self.invariant) c.put.ensures
